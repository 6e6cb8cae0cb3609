-- Stable insertion into a part of the memory, place by place: what has been passed stays in front of the new slot. Assumes nothing.
use mathlib.Core.Path.{◌≡◌, sym, ap, ◌∙◌, subst}
use mathlib.Core.List.{List, [], ◌∷◌, ◌++◌, append_assoc}
use mathlib.Core.Bool.{Bool, true, false}
use Prim.Native.Nat.{ℕ, zero, suc, ◌+◌, ◌-◌, ◌≤◌, ◌<◌}
use native.Mathlib.Omega.{arith}
use lib.ListN.{length, take, drop, get_or, take-append-drop, length-take, drop_of_length-le}
use lib.Seq.{slice, slice-cons, slice_empty, take-suc, take-nil, drop-cons, drop-append-le, get_or-take}
use Rattle.revwalk.specs.Order.{insert_by}
use Rattle.pending.specs.Pending.{Placed}

-- one element more at a part's end
pub slice_snoc : (f t : ℕ) (l : List ℕ) → f ≤ t → t < length l → slice f (t + 1) l ≡ slice f t l ++ (get_or l t 0 ∷ [])
slice_snoc f t l h k =
    let next : t + 1 ≡ suc t = omega arith in
    let inside : f ≤ length (take t l) = simp length-take (omega arith) in
    rw (next, take-suc l t 0 k, drop-append-le f (take t l) (get_or l t 0 ∷ []) inside)

-- one element more at a part's start, also where the part reaches past the end
pub slice_next : (f t : ℕ) (l : List ℕ) → f < t → f < length l → slice f t l ≡ get_or l f 0 ∷ slice (f + 1) t l
slice_next f t l h k =
    let next : f + 1 ≡ suc f = omega arith in
    let inside : f < length (take t l) = simp length-take (omega arith) in
    drop-cons (take t l) f 0 inside ∙ rw (get_or-take t l f 0 h, next)

-- a part that begins at its end, or past the memory's
pub slice_none : (f t : ℕ) (l : List ℕ) → t ≤ f → slice f t l ≡ []
slice_none f t l h = drop_of_length-le (take t l) {i = f} (simp length-take (omega arith))

pub slice_past : (f t : ℕ) (l : List ℕ) → length l ≤ f → slice f t l ≡ []
slice_past f t l h = drop_of_length-le (take t l) {i = f} (simp length-take (omega arith))

-- what stands from f on is the part up to t and what stands from t on
pub drop_split : (f t : ℕ) (l : List ℕ) → f ≤ t → t ≤ length l → drop f l ≡ slice f t l ++ drop t l
drop_split f t l h k =
    let inside : f ≤ length (take t l) = simp length-take (omega arith) in
    ap (drop f) (sym (take-append-drop t l)) ∙ drop-append-le f (take t l) (drop t l) inside

-- a part is the first of what stands from its start on
pub slice_first : (f t : ℕ) (l : List ℕ) → slice f t l ≡ take (t - f) (drop f l)
slice_first zero t l = let e : t ≡ t - 0 = omega arith in ap (λ (n : ℕ). take n l) e
slice_first (suc f) zero l = let e : 0 ≡ 0 - suc f = omega arith in ap (λ (n : ℕ). take n (drop (suc f) l)) e
slice_first (suc f) (suc t) [] = sym (take-nil (suc t - suc f))
slice_first (suc f) (suc t) (x ∷ xs) =
    let e : t - f ≡ suc t - suc f = omega arith in
    slice_first f t xs ∙ ap (λ (n : ℕ). take n (drop f xs)) e

-- the first up to i have been passed: x goes in among the rest
pub record Passed (lt : ℕ → ℕ → Bool) (l : List ℕ) (from to x i : ℕ) : Type 0 where
  pub low : from ≤ i
  pub high : i ≤ to
  pub goes : insert_by lt x (slice from to l) ≡ slice from i l ++ insert_by lt x (slice i to l)

pub passed_none : (lt : ℕ → ℕ → Bool) (l : List ℕ) (from to x : ℕ) → from ≤ to → Passed lt l from to x from
passed_none lt l from to x h = record { low = omega arith; high = h; goes = simp slice_empty }

module _ {lt : ℕ → ℕ → Bool} {l : List ℕ} {from to x i : ℕ} (m : Passed lt l from to x i) (inside : to ≤ length l) where
  pub passed-more : i < to → lt x (get_or l i 0) ≡ false → Passed lt l from to x (i + 1)
  unfolding insert_by
  passed-more h e =
      let k : i < length l = omega arith in
      let next : i + 1 ≡ suc i = omega arith in
      record {
        low = omega (arith, m.low);
        high = omega arith;
        goes = m.goes ∙ rw (slice_snoc from i l m.low k, next, slice-cons i to l 0 h inside, e) (simp append_assoc);
      }

  placed : insert_by lt x (slice i to l) ≡ x ∷ slice i to l → Placed lt l from to x i
  placed e = record { low = m.low; high = m.high; goes = m.goes ∙ ap (λ (t : List ℕ). slice from i l ++ t) e }

  pub placed-here : i < to → lt x (get_or l i 0) ≡ true → Placed lt l from to x i
  unfolding insert_by
  placed-here h e = placed (rw (slice-cons i to l 0 h inside, e))

  pub placed-last : to ≤ i → Placed lt l from to x i
  unfolding insert_by
  placed-last h = placed (rw (slice_none i to l h))

  pub placed-end : to ≤ i → Placed lt l from to x to
  placed-end h = let e : i ≡ to = omega (arith, m.high) in subst (Placed lt l from to x) e (placed-last h)
