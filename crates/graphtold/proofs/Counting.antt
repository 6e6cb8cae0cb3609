-- A level is at most the number of nodes, since below a node stand nodes of each smaller level. So the rounds of `level_at` find every solution of the
-- rule: the test of fitness fails only where there is none. Assumes nothing.
use mathlib.Core.Path.{◌≡◌, refl, sym, ◌∙◌, ap}
use mathlib.Core.Logic.{⊎_elim}
use mathlib.Core.Bool.{Bool, true, false, cond}
use Prim.Native.Nat.{ℕ, zero, suc, ◌≤◌, ◌<◌}
use native.Mathlib.Omega.{arith}
use lib.Dec.{ltb, leb}
use borrow.Author.Tests.{leb-true, le-leb, lt-leb}
use Rattle.hash.proofs.Tests.{by_cases}
use Rattle.levels.specs.Levels.{Graph, most, level_from, Rule, Sound, Fit, level_of, fit}
use Rattle.levels.specs.Search.{total}
use Rattle.levels.proofs.Rules.{three, from-same, rounds, fit_of, of_fit}

-- the greatest of some values is one of them, unless it is 0
most-some : (f : ℕ → ℕ) (c : ℕ) → 0 < most f c → (j : ℕ) × (j < c) × (f j ≡ most f c)
unfolding most
most-some f zero h = absurd (omega arith)
most-some f (suc c) h = go (ltb (most f c) (f c)) (most-some f c) h
  where
    go : (t : Bool) → (0 < most f c → (j : ℕ) × (j < c) × (f j ≡ most f c)) → 0 < cond t (f c) (most f c) → (j : ℕ) × (j < suc c) × (f j ≡ cond t (f c) (most f c))
    go true again p = (c, omega arith, refl)
    go false again p = let r = again p in (r.0, omega (arith, r.1), r.2)

-- ---- how many of n nodes have a level of at most l

abbrev up_to : (ℕ → ℕ) → ℕ → ℕ → ℕ
up_to lv l n = total (λ k. cond (leb (lv k) l) 1 0) n

up_most : (lv : ℕ → ℕ) (l n : ℕ) → up_to lv l n ≤ n
unfolding total
up_most lv l zero = omega arith
up_most lv l (suc n) = by_cases (leb (lv n) l) (λ e. rw e (omega (arith, up_most lv l n))) (λ e. rw e (omega (arith, up_most lv l n)))

one_up : (x l : ℕ) → cond (leb x l) 1 0 ≤ cond (leb x (suc l)) 1 0
one_up x l = by_cases (leb x l) (λ e. rw (e, le-leb x (suc l) (omega (arith, leb-true x l e))) (omega arith)) (λ e. rw e (omega arith))

up_more : (lv : ℕ → ℕ) (l n : ℕ) → up_to lv l n ≤ up_to lv (suc l) n
unfolding total
up_more lv l zero = omega arith
up_more lv l (suc n) = omega (arith, up_more lv l n, one_up (lv n) l)

-- a node of the next level is one more
up_next : (lv : ℕ → ℕ) (l n k : ℕ) → k < n → lv k ≡ suc l → suc (up_to lv l n) ≤ up_to lv (suc l) n
unfolding total
up_next lv l zero k h e = absurd (omega arith)
up_next lv l (suc n) k h e =
    ⊎_elim
    (λ d. omega (arith, up_next lv l n k d e, one_up (lv n) l))
    (λ d. let z : k ≡ n = omega arith in
    let s : lv n ≡ suc l = sym (ap lv z) ∙ e in
    rw (lt-leb (lv n) l (omega arith), le-leb (lv n) (suc l) (omega arith)) (omega (arith, up_more lv l n)))
    (three k n)

-- ---- a solution

module _ (g : Graph) (lv : ℕ → ℕ) (rule : Rule g lv) (sound : Sound g) where
  -- below a level stands the next smaller one
  one_below : (m k : ℕ) → k < g.nodes → lv k ≡ suc (suc m) → (p : ℕ) × (p < g.nodes) × (lv p ≡ suc m)
  unfolding level_from
  one_below m k h e =
      let r : lv k ≡ suc (most (λ j. lv (g.parent k j)) (g.count k)) = rule.is k h in
      let s = most-some (λ j. lv (g.parent k j)) (g.count k) (omega arith) in
      (g.parent k s.0, sound.present k s.0 h s.1, omega (arith, s.2))

  all-below : (m k : ℕ) → k < g.nodes → lv k ≡ m → m ≤ up_to lv m g.nodes
  all-below zero k h e = omega arith
  all-below (suc zero) k h e = omega (arith, up_next lv 0 g.nodes k h e)
  all-below (suc (suc m)) k h e =
      let p = one_below m k h e in
      omega (arith, up_next lv (suc m) g.nodes k h e, all-below (suc m) p.0 p.1 p.2)

  pub level-most : (k : ℕ) → k < g.nodes → lv k ≤ g.nodes
  level-most k h = omega (arith, all-below (lv k) k h refl, up_most lv (lv k) g.nodes)

  -- it is what the rounds compute
  pub level-is : (k : ℕ) → k < g.nodes → level_of g k ≡ lv k
  unfolding level_of
  level-is k h = rounds g lv rule sound g.nodes k h (level-most k h)

-- ---- the test

pub fit_all : (g : Graph) → Fit g → fit g ≡ true
fit_all g f = fit_of g f.levels f.sound f.rule (level-most g f.levels f.rule f.sound)

pub fit-rule : (g : Graph) → fit g ≡ true → Rule g (level_of g)
fit-rule g e =
    let f = of_fit g e in
    let is : (k : ℕ) → k < g.nodes → level_of g k ≡ f.levels k = level-is g f.levels f.rule f.sound in
    record { is = λ k h. is k h ∙ f.rule.is k h ∙ sym (from-same g (level_of g) f.levels k (λ j hj. is (g.parent k j) (f.sound.present k j h hj))) }
