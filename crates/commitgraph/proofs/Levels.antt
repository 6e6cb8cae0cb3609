-- Laws of levels: a file's levels are used exactly if no row states level 0, since one that does makes every longer run of rows fail; and a
-- stated level is below 2^30, so that none is the level of a commit without one. Assumes nothing.
use mathlib.Core.Path.{◌≡◌, refl, ap}
use mathlib.Core.Logic.{⊎_elim}
use Prim.Native.Nat.{ℕ, zero, suc, ◌+◌, ◌<◌}
use mathlib.Core.Bool.{Bool, true, false, cond, not}
use mathlib.Core.List.{List}
use native.Mathlib.Omega.{arith}
use native.Mathlib.Numerals.{add-one}
use native.Mathlib.Nat.{eq-or-lt_of_le}
use lib.Dec.{eqb}
use borrow.Author.Tests.{eq-eqb, ne_eqb}
use Rattle.hash.proofs.Tests.{clash, not_yes, guard_test, guarded}
use Rattle.commitgraph.specs.declared.Layout.{Layout}
use Rattle.commitgraph.specs.Graph.{graph_count, places_of, stated_level, levelled, level_in, no_generation, generation, layout_of}

module _ (w : ℕ) (g : List ℕ) (l : Layout) where
  no_zero : (n : ℕ) → not (eqb n 0) ≡ true → n ≡ 0 → ⊥
  no_zero n e z = clash (rw (eq-eqb n 0 z) at e) refl

  -- where the first n rows state no 0, row p of them does not
  pub levels-each : (n p : ℕ) → p < n → levelled w g l n ≡ true → stated_level w g l p ≡ 0 → ⊥
  unfolding levelled
  levels-each zero p h e z = omega arith
  levels-each (suc n) p h e z =
      ⊎_elim
      (λ (k : p ≡ n). no_zero (stated_level w g l n) (guarded (levelled w g l n) _ e) (rw k at z))
      (λ (k : p < n). levels-each n p k (guard_test (levelled w g l n) _ e) z)
      (eq-or-lt_of_le (omega arith))

  -- one row more
  pub levels-more : (n : ℕ) → levelled w g l n ≡ true → (stated_level w g l n ≡ 0 → ⊥) → levelled w g l (n + 1) ≡ true
  unfolding levelled
  levels-more n h k = rw (add-one n, h, ne_eqb (stated_level w g l n) 0 k)

  pub levels-all : (n : ℕ) → ((p : ℕ) → p < n → stated_level w g l p ≡ 0 → ⊥) → levelled w g l n ≡ true
  unfolding levelled
  levels-all zero h = refl
  levels-all (suc n) h = rw (levels-all n (λ p q. h p (omega arith)), ne_eqb (stated_level w g l n) 0 (h n (omega arith)))

  -- a row that states 0
  pub levels-none : (n i : ℕ) → i < n → stated_level w g l i ≡ 0 → levelled w g l n ≡ false
  levels-none n i h z = not_yes (λ e. levels-each n i h e z)

  -- the level of a row in its pair
  pub level-used : (p : ℕ) → l.levels ≡ true → level_in w g l p ≡ stated_level w g l p
  unfolding level_in
  level-used p e = ap (λ (b : Bool). cond b (stated_level w g l p) no_generation) e

  pub level-unused : (p : ℕ) → l.levels ≡ false → level_in w g l p ≡ no_generation
  unfolding level_in
  level-unused p e = ap (λ (b : Bool). cond b (stated_level w g l p) no_generation) e

-- "If any row has level 0, no level of that file is used": whichever row p it is, every row q takes 0xFFFFFFFF
pub zero-level : (w : ℕ) (g : List ℕ) (p q : ℕ) → p < graph_count g → stated_level w g (places_of g) p ≡ 0 → generation w g q ≡ no_generation
unfolding generation layout_of
zero-level w g p q h z = level-unused w g (layout_of w g) q (levels-none w g (places_of g) (graph_count g) p h z)
