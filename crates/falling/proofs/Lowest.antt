-- One cell: of two children the one with the lesser pair stands for both, since what lies below it lies below the other. Assumes nothing.
use mathlib.Core.Path.{◌≡◌, refl, sym, ◌∙◌, ap}
use mathlib.Core.Logic.{◌⊎◌, inl, inr, ⊎_elim}
use Prim.Native.Nat.{ℕ, zero, suc, ◌+◌, ◌≤◌, ◌<◌}
use mathlib.Core.Bool.{Bool, true, false}
use mathlib.Core.List.{List}
use native.Mathlib.Omega.{arith}
use lib.ListN.{get_or}
use lib.IntN.{ℤ}
use Rattle.hash.proofs.Tests.{by_cases, clash}
use Rattle.walk.specs.Lookup.{Pair, lt_pair}
use Rattle.walk.proofs.Laws.{lt_pair_trans}
use Rattle.pending.proofs.Ahead.{pair_steady}
use Rattle.reach.proofs.Growth.{last-place}
use Rattle.falling.specs.Cells.{slot_pair, low_in, lowered, is_low, AllLow}

-- below one that is not greater
under-other : (q c a : Pair) → lt_pair q a ≡ true → lt_pair c a ≡ false → lt_pair q c ≡ true
under-other q c a h k = by_cases (lt_pair q c) (λ e. e) (λ e. clash h (pair_steady q c a e k))

module _ (levels : List ℕ) (times : List ℤ) (child : ℕ) where
  -- the two cases of a cell that has a child
  pub lowered-less : (c : ℕ) → lt_pair (slot_pair levels times child) (slot_pair levels times c) ≡ true → lowered levels times child (suc c) ≡ suc child
  unfolding lowered
  lowered-less c e = rw e

  pub lowered-stays : (c : ℕ) → lt_pair (slot_pair levels times child) (slot_pair levels times c) ≡ false → lowered levels times child (suc c) ≡ suc c
  unfolding lowered
  lowered-stays c e = rw e

  pub lowered-first : lowered levels times child zero ≡ suc child
  unfolding lowered
  lowered-first = refl

  pub lowered-cases : (c : ℕ) → (lowered levels times child c ≡ c) ⊎ (lowered levels times child c ≡ suc child)
  lowered-cases zero = inr lowered-first
  lowered-cases (suc c) = by_cases (lt_pair (slot_pair levels times child) (slot_pair levels times c)) (λ e. inr (lowered-less c e)) (λ e. inl (lowered-stays c e))

  pub low_keeps : (c : ℕ) (q : Pair) → low_in levels times (lowered levels times child c) q ≡ true → low_in levels times c q ≡ true
  unfolding low_in
  low_keeps zero q h = refl
  low_keeps (suc c) q h = by_cases (lt_pair (slot_pair levels times child) (slot_pair levels times c))
      (λ e. lt_pair_trans q (slot_pair levels times child) (slot_pair levels times c) (ap (λ (k : ℕ). low_in levels times k q) (sym (lowered-less c e)) ∙ h) e)
      (λ e. ap (λ (k : ℕ). low_in levels times k q) (sym (lowered-stays c e)) ∙ h)

  pub low-under : (c : ℕ) (q : Pair) → low_in levels times (lowered levels times child c) q ≡ true → lt_pair q (slot_pair levels times child) ≡ true
  unfolding low_in
  low-under zero q h = ap (λ (k : ℕ). low_in levels times k q) (sym lowered-first) ∙ h
  low-under (suc c) q h = by_cases (lt_pair (slot_pair levels times child) (slot_pair levels times c))
      (λ e. ap (λ (k : ℕ). low_in levels times k q) (sym (lowered-less c e)) ∙ h)
      (λ e. under-other q (slot_pair levels times child) (slot_pair levels times c) (ap (λ (k : ℕ). low_in levels times k q) (sym (lowered-stays c e)) ∙ h) e)

  pub low-only : (c : ℕ) (q : Pair) → low_in levels times c q ≡ true → lt_pair q (slot_pair levels times child) ≡ true → low_in levels times (lowered levels times child c) q ≡ true
  unfolding low_in
  low-only c q h k = ⊎_elim
      (λ e. ap (λ (j : ℕ). low_in levels times j q) e ∙ h)
      (λ e. ap (λ (j : ℕ). low_in levels times j q) e ∙ k)
      (lowered-cases c)

-- ---- a cell by its value

pub low-empty : (levels : List ℕ) (times : List ℤ) (c : ℕ) (q : Pair) → c ≡ 0 → true ≡ low_in levels times c q
unfolding low_in
low-empty levels times c q e = ap (λ (k : ℕ). low_in levels times k q) (sym e)

pub low-some : (levels : List ℕ) (times : List ℤ) (c d : ℕ) (q : Pair) → c ≡ suc d → lt_pair q (slot_pair levels times d) ≡ low_in levels times c q
unfolding low_in
low-some levels times c d q e = ap (λ (k : ℕ). low_in levels times k q) (sym e)

-- ---- the line

-- after k of n
pub record LowTo (line levels : List ℕ) (times : List ℤ) (from n k : ℕ) : Type 0 where
  pub upto : k ≤ n
  pub low : (i : ℕ) → i < k → is_low line levels times (get_or line (from + i) 0) ≡ true

pub low_first : (line levels : List ℕ) (times : List ℤ) (from n : ℕ) → LowTo line levels times from n 0
low_first line levels times from n = record { upto = omega arith; low = λ i h. absurd (omega arith) }

module _ {line levels : List ℕ} {times : List ℤ} {from n k : ℕ} (v : LowTo line levels times from n k) where
  module _ (h : k < n) {slot : ℕ} {r : Bool} (at : slot ≡ get_or line (from + k) 0) (is : r ≡ is_low line levels times slot) where
    this : r ≡ is_low line levels times (get_or line (from + k) 0)
    this = is ∙ ap (is_low line levels times) at

    pub low-next : r ≡ true → LowTo line levels times from n (k + 1)
    low-next e = record {
      upto = omega arith;
      low = λ i j. ⊎_elim (v.low i) (λ p. ap (λ (z : ℕ). is_low line levels times (get_or line (from + z) 0)) p ∙ sym this ∙ e) (last-place i k (omega arith));
    }

    pub low-stop : r ≡ false → AllLow line levels times from n false
    low-stop e = record { yes = λ q. clash q refl; no = λ q. (k, h, sym this ∙ e) }

  pub low-last : n ≤ k → AllLow line levels times from n true
  low-last h = record { yes = λ q i j. v.low i (omega arith); no = λ q. clash refl q }

-- ---- the cell with a child more, by its value

module _ (levels : List ℕ) (times : List ℤ) (child cell : ℕ) where
  pub cell-first : cell ≡ 0 → child + 1 ≡ lowered levels times child cell
  cell-first e = let o : child + 1 ≡ suc child = omega arith in o ∙ sym (lowered-first levels times child) ∙ ap (lowered levels times child) (sym e)

  pub cell-less : (d : ℕ) → cell ≡ suc d → lt_pair (slot_pair levels times child) (slot_pair levels times d) ≡ true → child + 1 ≡ lowered levels times child cell
  cell-less d e h = let o : child + 1 ≡ suc child = omega arith in o ∙ sym (lowered-less levels times child d h) ∙ ap (lowered levels times child) (sym e)

  pub cell_stays : (d : ℕ) → cell ≡ suc d → lt_pair (slot_pair levels times child) (slot_pair levels times d) ≡ false → cell ≡ lowered levels times child cell
  cell_stays d e h = e ∙ sym (lowered-stays levels times child d h) ∙ ap (lowered levels times child) (sym e)
