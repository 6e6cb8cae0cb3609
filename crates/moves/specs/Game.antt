-- Tracing by turns (document 02, card 12): "the benches trace back from the run by turns, each choosing a parent, the cone bench first. The cone bench
-- gets its way if the trace reaches a commit on a given list of calibrations within d moves …; reaching one at the start counts, and a commit without
-- parents off the list does not." Everything computes. Assumes nothing.
use Rattle.std.specs.Prelude.{ℕ, zero, suc, Bool, true, false, cond, List, [], ◌∷◌}
use Rattle.hash.specs.Bytes.{Id, among}
use Rattle.walk.specs.Lookup.{World}
use Rattle.walk.specs.Reach.{links}

-- some parent is such a one
unfoldable pub any_of : (Id → Bool) → List Id → Bool
any_of f [] = false
any_of f (p ∷ ps) = let r = any_of f ps in cond (f p) true r

-- every parent is
unfoldable pub all_of : (Id → Bool) → List Id → Bool
all_of f [] = true
all_of f (p ∷ ps) = let r = all_of f ps in cond (f p) r false

-- there are parents, and every one is: "a commit without parents off the list does not" count
unfoldable pub some_and_all : (Id → Bool) → List Id → Bool
some_and_all f [] = false
some_and_all f (p ∷ ps) = all_of f (p ∷ ps)

-- how many parents come before the first that is such a one; all of them where none is
unfoldable pub first_of : (Id → Bool) → List Id → ℕ
first_of f [] = 0
first_of f (p ∷ ps) = let r = suc (first_of f ps) in cond (f p) 0 r

-- "The bench to move and the bench to reply are judged by one another's prospects with one move fewer": with d moves left the cone forces the trace
-- to the list from x, the cone to move; and the bed to move. w says what parents are, list is the calibrations
unfoldable mutual
  pub coneForces : ℕ → World → List Id → Id → Bool
  coneForces zero w list x = among x list
  coneForces (suc d) w list x = cond (among x list) true (any_of (λ p. bedForced d w list p) (links w x))

  pub bedForced : ℕ → World → List Id → Id → Bool
  bedForced zero w list x = among x list
  bedForced (suc d) w list x = cond (among x list) true (some_and_all (λ p. coneForces d w list p) (links w x))

-- the same by who is to move
abbrev pub forced : World → List Id → Bool → ℕ → Id → Bool
forced w list false d x = coneForces d w list x
forced w list true d x = bedForced d w list x
