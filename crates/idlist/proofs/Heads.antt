-- What heads tell of ids of one width: the id with the lower head is the lower. Assumes nothing.
use mathlib.Core.Path.{◌≡◌, sym, ◌∙◌, ap}
use Prim.Native.Nat.{ℕ, ◌+◌, ◌≤◌, ◌<◌}
use mathlib.Core.Bool.{true, false}
use mathlib.Core.List.{List}
use native.Mathlib.Omega.{arith}
use lib.ListN.{length, get_or}
use Rattle.hash.specs.Bytes.{Id, lt_id, compare_id, at, head_of}
use Rattle.std.specs.declared.cmp.Ordering.TheVariants.{Less, Greater}
use Rattle.hash.proofs.Ids.{lt_id_asym, compare_less}
use Rattle.hash.proofs.Bytes.{at_rest, length_at, small_at}
use Rattle.hash.proofs.Words.{head-less, head_greater}

at_all : (x : List ℕ) → at x 0 (length x) ≡ x
at_all x = at_rest x 0 (length x) (omega arith)

-- an id at a place and the id x
module _ (s : List ℕ) (i : ℕ) (x : Id) (ss : (k : ℕ) → get_or s k 0 < 256) (sx : (k : ℕ) → get_or x k 0 < 256) (l : i + length x ≤ length s) {h k : ℕ}
    (e : h ≡ head_of (at s i (length x))) (f : k ≡ head_of (at x 0 (length x))) where
  pub lower-head : h < k → compare_id (at s i (length x)) x ≡ Less
  lower-head t = head-less (at s i (length x)) x (small_at s i (length x) ss) sx (length_at s i (length x) l) (omega (arith, e, f, ap head_of (at_all x)))

  pub higher-head : k < h → compare_id (at s i (length x)) x ≡ Greater
  higher-head t = head_greater (at s i (length x)) x (small_at s i (length x) ss) sx (length_at s i (length x) l) (omega (arith, e, f, ap head_of (at_all x)))

-- two ids of a file
module _ (s : List ℕ) (i j n : ℕ) (ss : (k : ℕ) → get_or s k 0 < 256) (li : i + n ≤ length s) (lj : j + n ≤ length s) {x y : ℕ}
    (e : x ≡ head_of (at s i n)) (f : y ≡ head_of (at s j n)) where
  same_width : length (at s i n) ≡ length (at s j n)
  same_width = length_at s i n li ∙ sym (length_at s j n lj)

  pub heads-less : x < y → lt_id (at s i n) (at s j n) ≡ true
  heads-less h = compare_less (at s i n) (at s j n) (head-less (at s i n) (at s j n) (small_at s i n ss) (small_at s j n ss) same_width (omega (arith, e, f)))

  pub heads-greater : y < x → lt_id (at s i n) (at s j n) ≡ false
  heads-greater h = lt_id_asym (at s j n) (at s i n) (compare_less (at s j n) (at s i n) (head-less (at s j n) (at s i n) (small_at s j n ss) (small_at s i n ss) (sym same_width) (omega (arith, e, f))))
