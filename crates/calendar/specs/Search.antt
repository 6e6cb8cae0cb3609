-- What the search among terms finds, on any numbers. Assumes nothing.
use Rattle.std.specs.Prelude.{ℕ, ◌-◌, ◌/◌, ◌≤◌, ◌<◌, List, length}
use Rattle.calendar.specs.Months.{first_day, tabled}
use Rattle.calendar.specs.Terms.{first_month}

-- of the numbers up to the number of terms one such that the term before it has begun on the day, and the term there has not
pub record Begun (l : List ℕ) (day k : ℕ) : Type 0 where
  pub within : k ≤ length l / 2
  pub last : 0 < k → first_day (tabled (first_month l (k - 1))) ≤ day
  pub next : k < length l / 2 → day < first_day (tabled (first_month l k))
