-- The calendar in UTC (document 02, card 9). A month is counted from January 1970, a day from 1 January 1970. Assumes nothing.
use Rattle.std.specs.Prelude.{ℕ, zero, suc, ◌+◌, ◌*◌, ◌-◌, ◌/◌, ◌%◌, Bool, true, false, cond, List, [], ◌∷◌, get_or, eqb, ltb}

-- the Gregorian rule: every fourth year is a leap year, of the hundredth ones every fourth
unfoldable pub leap : ℕ → Bool
leap y = cond (eqb (y % 100) 0) (eqb (y % 400) 0) (eqb (y % 4) 0)

-- the days of each month of a year
unfoldable pub lengths : ℕ → List ℕ
lengths y = 31 ∷ cond (leap y) 29 28 ∷ 31 ∷ 30 ∷ 31 ∷ 30 ∷ 31 ∷ 31 ∷ 30 ∷ 31 ∷ 30 ∷ 31 ∷ []

-- the days of a month
unfoldable pub month_length : ℕ → ℕ
month_length m = get_or (lengths (1970 + m / 12)) (m % 12) 0

-- the first day of a month
unfoldable pub first_day : ℕ → ℕ
first_day zero = 0
first_day (suc m) = first_day m + month_length m

-- the first and the last second of a month
unfoldable pub first_second : ℕ → ℕ
first_second m = first_day m * 86400

unfoldable pub last_second : ℕ → ℕ
last_second m = first_second (suc m) - 1

-- how many months the table has: January 1970 to December 2099
abbrev pub months : ℕ
months = 1560

-- the months past the table are taken for the first of them
abbrev pub tabled : ℕ → ℕ
tabled m = cond (ltb m months) m months

unfoldable pub months_all : Unit {0}
unfolding leap lengths month_length first_day first_second last_second
months_all = tt
