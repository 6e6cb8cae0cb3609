-- What is read of a trace before any move (document 02, card 12): "13 for an unreadable commit within d parent steps of the start, the start included".
-- Everything computes. Assumes nothing.
use Rattle.std.specs.Prelude.{ℕ, zero, suc, ◌≡◌, Bool, true, false, cond, List, [], ◌∷◌}
use Rattle.hash.specs.Bytes.{Id}
use Rattle.walk.specs.Lookup.{World, Read, fail, good, from_store}
use Rattle.walk.specs.Reach.{Mem, links}

-- "readable in the book"; an absent commit is not
abbrev pub is_good : Read → Bool
is_good (fail n) = false
is_good (good ps p) = true

unfoldable pub readable : World → Id → Bool
readable w x = is_good (from_store (w.store x))

-- every commit of a list is such a one
unfoldable pub every : (Id → Bool) → List Id → Bool
every f [] = true
every f (p ∷ ps) = let r = every f ps in cond (f p) r false

-- every commit within d parent steps of x is readable, x included
unfoldable pub readable_within : ℕ → World → Id → Bool
readable_within zero w x = readable w x
readable_within (suc d) w x = let r = every (λ p. readable_within d w p) (links w x) in cond (readable w x) r false

-- y is within d parent steps of x
pub data Within (w : World) (y : Id) : ℕ → Id → Type 0 where
  here : {d : ℕ} {x : Id} → x ≡ y → Within w y d x
  step : {d : ℕ} {x p : Id} → Mem p (links w x) → Within w y d p → Within w y (suc d) x
