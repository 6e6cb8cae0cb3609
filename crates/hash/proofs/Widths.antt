-- The width of an id: 20 or 32. What holds of both holds of the width of any kind; and products with the width, for sums that must fit.
-- Assumes nothing.
use mathlib.Core.Path.{◌≡◌, refl, sym, ◌∙◌, ap}
use lib.Dec.{ltb, leb}
use borrow.Author.Tests.{ltb-true, ltb-false, le-leb, lt-leb}
use Rattle.hash.proofs.Tests.{by_cases}
use Prim.Native.Nat.{ℕ, ◌+◌, ◌*◌, ◌/◌, ◌≤◌, ◌<◌}
use native.Mathlib.Omega.{arith}
use native.Mathlib.Nat.{mul-le-mul_left, mul-le-mul_right, mul-suc, le-div_iff_mul-le}
use Prim.Native.Nat.{zero, suc, ◌-◌}
use Rattle.hash.specs.declared.Kind.{Kind}
use Rattle.hash.specs.declared.Kind.TheVariants.{Sha1, Sha256}
use Rattle.hash.specs.Bytes.{width_of}

-- what holds of 20 and of 32 holds of every width
pub by_kind {ℓ} : (P : ℕ → Type ℓ) → P 20 → P 32 → (kind : Kind) → P (width_of kind)
by_kind P p q Sha1 = p
by_kind P p q Sha256 = q

pub width_1 : {kind : Kind} → kind ≡ Sha1 → width_of kind ≡ 20
width_1 e = ap width_of e

pub width_256 : {kind : Kind} → kind ≡ Sha256 → width_of kind ≡ 32
width_256 e = ap width_of e

pub width_least : (kind : Kind) → 20 ≤ width_of kind
width_least = by_kind (λ w. 20 ≤ w) (omega arith) (omega arith)

pub width-most : (kind : Kind) → width_of kind ≤ 32
width-most = by_kind (λ w. w ≤ 32) (omega arith) (omega arith)

-- ---- products with a width: `w * k` is a number of its own to `omega`, these tie it to k

-- k ids are 20 to 32 bytes each
pub width-times : (kind : Kind) (k : ℕ) → (20 * k ≤ width_of kind * k) × (width_of kind * k ≤ 32 * k)
width-times kind k = (mul-le-mul_right k (width_least kind), mul-le-mul_right k (width-most kind))

-- an id ends before a later one starts: at any width
pub apart : (w : ℕ) {j k : ℕ} → j < k → w * j + w ≤ w * k
apart w {j} h = omega (arith, mul-le-mul_left w h, mul-suc w j)

-- k ids end where k more of a longer list do, or before
pub in_all : (w : ℕ) {j k : ℕ} → j ≤ k → w * j ≤ w * k
in_all w h = mul-le-mul_left w h

-- a product of two numbers with bounds
pub times-most : (w m n k : ℕ) → w ≤ m → n ≤ k → w * n ≤ m * k
times-most w m n k p q = omega (arith, mul-le-mul_left w q, mul-le-mul_right k p)

-- the one before number k, and its end
pub one-before : (e k : ℕ) → (k ≡ 0 → ⊥) → e * (k - 1) + e ≡ e * k
one-before e zero n = absurd (n refl)
one-before e (suc k) n = let p : suc k - 1 ≡ k = omega arith in rw p (omega (arith, mul-suc e k))

-- ---- how many ids have a number of 64 bits as their place: a test of a constant, and no division

pub past_20 : (k : ℕ) → ltb 922337203685477580 k ≡ leb 18446744073709551616 (20 * k)
past_20 k =
    by_cases (ltb 922337203685477580 k)
    (λ h. h ∙ sym (le-leb 18446744073709551616 (20 * k) (omega (arith, ltb-true 922337203685477580 k h))))
    (λ h. h ∙ sym (lt-leb 18446744073709551616 (20 * k) (omega (arith, ltb-false 922337203685477580 k h))))

pub past_32 : (k : ℕ) → ltb 576460752303423487 k ≡ leb 18446744073709551616 (32 * k)
past_32 k =
    by_cases (ltb 576460752303423487 k)
    (λ h. h ∙ sym (le-leb 18446744073709551616 (32 * k) (omega (arith, ltb-true 576460752303423487 k h))))
    (λ h. h ∙ sym (lt-leb 18446744073709551616 (32 * k) (omega (arith, ltb-false 576460752303423487 k h))))

-- ---- how many ids some bytes are

pub ids-fit : (w n k : ℕ) → 0 < w → k ≤ n / w → w * k ≤ n
ids-fit w n k p h = omega (arith, (le-div_iff_mul-le p).0 h)

pub fit-ids : (w n k : ℕ) → 0 < w → w * k ≤ n → k ≤ n / w
fit-ids w n k p h = (le-div_iff_mul-le p).1 (omega arith)
