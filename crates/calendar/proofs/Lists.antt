-- The months of a list read two at a time, as the loop over the terms does. Assumes nothing.
use mathlib.Core.Path.{◌≡◌, refl, sym, ◌∙◌, ap}
use mathlib.Core.Bool.{Bool, true, false, cond, ◌&&◌}
use mathlib.Core.List.{List, [], ◌∷◌}
use Prim.Native.Nat.{ℕ, zero, suc, ◌+◌, ◌*◌, ◌/◌, ◌≤◌, ◌<◌}
use native.Mathlib.Omega.{arith}
use lib.ListN.{length, get_or, drop, drop_of_length-le}
use lib.Seq.{drop-cons}
use lib.Dec.{eqb, ltb}
use borrow.Author.Tests.{ltb-true, ltb-false, eq-eqb, ne_eqb}
use Rattle.hash.proofs.Tests.{by_cases}
use Rattle.calendar.specs.Terms.{fits, rise, first_month, last_month}

-- the two months of term k stand at the head of what is left
pub two : (l : List ℕ) (k : ℕ) → k < length l / 2 → drop (k * 2) l ≡ first_month l k ∷ last_month l k ∷ drop ((k + 1) * 2) l
two l k h =
    let p : suc (k * 2) ≡ k * 2 + 1 = omega arith in
    let q : suc (k * 2 + 1) ≡ (k + 1) * 2 = omega arith in
    drop-cons l (k * 2) 0 (omega (arith, h))
    ∙ ap (λ (r : List ℕ). first_month l k ∷ r) (ap (λ (i : ℕ). drop i l) p ∙ drop-cons l (k * 2 + 1) 0 (omega (arith, h)) ∙ ap (λ (i : ℕ). last_month l k ∷ drop i l) q)

module _ (l : List ℕ) (free k : ℕ) (h : k < length l / 2) where
  -- a term that does not fit ends the test
  pub unfit : fits free (first_month l k) (last_month l k) ≡ false → rise free (drop (k * 2) l) ≡ false
  unfolding rise
  unfit e = ap (rise free) (two l k h) ∙ ap (λ (b : Bool). cond b (rise (suc (last_month l k)) (drop ((k + 1) * 2) l)) false) e

  -- after one that fits the rest is tested
  pub fit : fits free (first_month l k) (last_month l k) ≡ true → rise free (drop (k * 2) l) ≡ rise (suc (last_month l k)) (drop ((k + 1) * 2) l)
  unfolding rise
  fit e = ap (rise free) (two l k h) ∙ ap (λ (b : Bool). cond b (rise (suc (last_month l k)) (drop ((k + 1) * 2) l)) false) e

-- past the last pair nothing is left, or a month without its other
pub rest : (l : List ℕ) (free n : ℕ) → n ≡ length l / 2 → rise free (drop (n * 2) l) ≡ eqb (length l) (n * 2)
unfolding rise
rest l free n e = by_cases (ltb (n * 2) (length l))
    (λ q. let h : n * 2 < length l = ltb-true (n * 2) (length l) q in
    ap (rise free) (drop-cons l (n * 2) 0 h ∙ ap (λ (r : List ℕ). get_or l (n * 2) 0 ∷ r) (drop_of_length-le l {i = suc (n * 2)} (omega (arith, h, e))))
    ∙ sym (ne_eqb (length l) (n * 2) (λ z. omega (arith, z, h))))
    (λ q. let h : length l ≤ n * 2 = ltb-false (n * 2) (length l) q in
    ap (rise free) (drop_of_length-le l h) ∙ sym (eq-eqb (length l) (n * 2) (omega (arith, h, e))))
