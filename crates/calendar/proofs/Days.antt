-- A term by days: seconds lie in it exactly where their day lies between the first day of its first month and that of the month after its
-- last. Assumes nothing.
use mathlib.Core.Path.{◌≡◌, refl, sym, ◌∙◌, ap, subst}
use mathlib.Core.Bool.{Bool, true, false, ◌&&◌}
use Prim.Native.Nat.{ℕ, zero, suc, ◌+◌, ◌*◌, ◌-◌, ◌/◌, ◌≤◌, ◌<◌}
use native.Mathlib.Omega.{arith}
use lib.Dec.{leb}
use lib.IntN.{ℤ, pos, negsuc}
use borrow.Author.Tests.{le-leb, lt-leb, leb-true}
use Rattle.hash.proofs.Tests.{clash, and_of, and_first, and_second}
use Rattle.calendar.specs.Months.{first_day, first_second, last_second, months_all}
use Rattle.calendar.specs.Terms.{in_term}
use Rattle.calendar.proofs.Table.{later}

-- months in order begin in order
pub in_order : (a b : ℕ) → a ≤ b → first_day a ≤ first_day b
in_order a b h = let z : a + (b - a) ≡ b = omega (arith, h) in subst (λ (m : ℕ). first_day a ≤ first_day m) z (later a (b - a))

february : first_day 1 ≡ 31
unfolding months_all
february = refl

-- only January 1970 begins on its first day
some_days : (m : ℕ) → 0 < first_day (suc m)
some_days m = omega (arith, february, in_order 1 (suc m) (omega arith))

-- not after the last second of a month: before the first second of the next
starts : (a n : ℕ) → first_day a ≤ n / 86400 → leb (first_second a) n ≡ true
unfolding first_second
starts a n h = le-leb (first_day a * 86400) n (omega (arith, h))

early : (a n : ℕ) → n / 86400 < first_day a → leb (first_second a) n ≡ false
unfolding first_second
early a n h = lt-leb (first_day a * 86400) n (omega (arith, h))

ends : (b n : ℕ) → n / 86400 < first_day (suc b) → leb n (last_second b) ≡ true
unfolding first_second last_second
ends b n h = le-leb n (first_day (suc b) * 86400 - 1) (omega (arith, h))

late : (b n : ℕ) → first_day (suc b) ≤ n / 86400 → leb n (last_second b) ≡ false
unfolding first_second last_second
late b n h = lt-leb n (first_day (suc b) * 86400 - 1) (omega (arith, h, some_days b))

-- ---- a day within, before and after a term

pub within : (a b n : ℕ) → first_day a ≤ n / 86400 → n / 86400 < first_day (suc b) → in_term a b (pos n) ≡ true
unfolding in_term
within a b n h g = and_of (starts a n h) (ends b n g)

pub before : (a b n : ℕ) → n / 86400 < first_day a → in_term a b (pos n) ≡ false
unfolding in_term
before a b n h = rw (early a n h) refl

pub after : (a b n : ℕ) → first_day (suc b) ≤ n / 86400 → in_term a b (pos n) ≡ false
unfolding in_term
after a b n h = no (leb (first_second a) n) (late b n h)
  where
    no : (x : Bool) {y : Bool} → y ≡ false → (x && y) ≡ false
    no true e = e
    no false e = refl

-- no term has seconds before 1970
pub negative : (a b n : ℕ) → in_term a b (negsuc n) ≡ false
unfolding in_term
negative a b n = refl

-- ---- and back

began : (a n : ℕ) → leb (first_second a) n ≡ true → first_day a ≤ n / 86400
unfolding first_second
began a n t = omega (arith, leb-true (first_day a * 86400) n t)

lasts : (b n : ℕ) → leb n (last_second b) ≡ true → n / 86400 < first_day (suc b)
unfolding first_second last_second
lasts b n t = omega (arith, leb-true n (first_day (suc b) * 86400 - 1) t, some_days b)

pub day_of : (a b n : ℕ) → in_term a b (pos n) ≡ true → (first_day a ≤ n / 86400) × (n / 86400 < first_day (suc b))
unfolding in_term
day_of a b n t =
    (began a n (and_first (leb (first_second a) n) (leb n (last_second b)) t), lasts b n (and_second (leb (first_second a) n) (leb n (last_second b)) t))
