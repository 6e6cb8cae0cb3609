-- Which of two slots leaves first: their pairs tell, and pairs compare levels, then seconds. Of two slots at most one leaves strictly
-- before the other; and what leaves no later than one that leaves no later than a third leaves no later than that. Assumes nothing.
use mathlib.Core.Path.{◌≡◌, sym, ◌∙◌}
use mathlib.Core.Logic.{inl, inr}
use mathlib.Core.List.{List}
use mathlib.Core.Bool.{true, false}
use Prim.Native.Nat.{ℕ, ◌≤◌}
use native.Mathlib.Omega.{arith}
use lib.Dec.{ltb}
use lib.IntN.{ℤ}
use lib.Signed.{lt_z}
use borrow.Author.Tests.{le-ltb, ltb-false}
use Rattle.hash.proofs.Tests.{by_cases, clash, not_yes}
use Rattle.revwalk.specs.Order.{seconds_of}
use Rattle.revwalk.proofs.QueueOrders.{sooner-level}
use Rattle.walk.specs.Lookup.{Pair, lt_pair}
use Rattle.walk.proofs.Laws.{Less, less_of, pair-below, pair-level, lt_pair_asym}
use Rattle.pending.specs.Pending.{level_of, pair_at, ahead}

-- comparing looks at the two slots' levels and seconds alone
pub ahead_agree : (levels levels' : List ℕ) (times times' : List ℤ) (a b : ℕ) → level_of levels a ≡ level_of levels' a → level_of levels b ≡ level_of levels' b
    → seconds_of times a ≡ seconds_of times' a → seconds_of times b ≡ seconds_of times' b → ahead levels times a b ≡ ahead levels' times' a b
unfolding ahead
ahead_agree levels levels' times times' a b p q r s = rw (p, q, r, s)

-- a pair that is not less has no lower level, and of equal levels no lower seconds
not_lower : (a b : Pair) → lt_pair a b ≡ false → b.generation ≤ a.generation
not_lower a b p = by_cases (ltb a.generation b.generation) (λ t. clash (pair-below a b t) p) (λ t. ltb-false _ _ t)

not-sooner : (a b : Pair) → lt_pair a b ≡ false → a.generation ≡ b.generation → lt_z a.time b.time ≡ false
not-sooner a b p e =
    sym (pair-level a b (le-ltb a.generation b.generation (omega arith)) (le-ltb b.generation a.generation (omega arith))) ∙ p

pub pair_steady : (a b c : Pair) → lt_pair a b ≡ false → lt_pair b c ≡ false → lt_pair a c ≡ false
unfolding Less
pair_steady a b c p q = not_yes (λ h. go (less_of a c h))
  where
    l : b.generation ≤ a.generation
    l = not_lower a b p

    m : c.generation ≤ b.generation
    m = not_lower b c q

    go : Less a c → ⊥
    go (inl h) = omega (arith, l, m)
    go (inr h) = clash h.1 (sooner-level true a.time b.time c.time (not-sooner a b p (omega (arith, l, m, h.0))) (not-sooner b c q (omega (arith, l, m, h.0))))

module _ (levels : List ℕ) (times : List ℤ) where
  pub ahead-asym : (a b : ℕ) → ahead levels times a b ≡ true → ahead levels times b a ≡ false
  unfolding ahead
  ahead-asym a b e = lt_pair_asym (pair_at levels times b) (pair_at levels times a) e

  pub ahead-level : (a b c : ℕ) → ahead levels times b a ≡ false → ahead levels times c b ≡ false → ahead levels times c a ≡ false
  unfolding ahead
  ahead-level a b c e f = pair_steady (pair_at levels times a) (pair_at levels times b) (pair_at levels times c) e f
