-- The table's rule, proved once over the whole table: where each number is the one before it and the days of the month between, which is a
-- test that is computed, the number of a month is its first day. Assumes nothing.
use mathlib.Core.Path.{◌≡◌, refl, sym, ◌∙◌, ap}
use mathlib.Core.Bool.{Bool, true, false, cond}
use mathlib.Core.List.{List, [], ◌∷◌}
use Prim.Native.Nat.{ℕ, zero, suc, ◌+◌, ◌≤◌, ◌<◌}
use native.Mathlib.Omega.{arith}
use lib.ListN.{length, get_or, drop}
use lib.Dec.{eqb}
use borrow.Author.Tests.{eqb-true}
use Rattle.hash.proofs.Tests.{guard_test, guarded}
use Rattle.calendar.specs.Months.{month_length, first_day, months, months_all}
use Rattle.calendar.specs.Table.{table}

-- neighbours differ by the month's length, from month m on, where x is the number of that month
abbrev pub neighbours : ℕ → ℕ → List ℕ → Bool
neighbours m x [] = true
neighbours m x (y ∷ l) = cond (eqb y (x + month_length m)) (neighbours (suc m) y l) false

from : (l : List ℕ) (m x : ℕ) → neighbours m x l ≡ true → x ≡ first_day m → (k : ℕ) → k < suc (length l) → get_or (x ∷ l) k 0 ≡ first_day (m + k)
unfolding first_day
from l m x t e zero h = let z : m + 0 ≡ m = omega arith in e ∙ ap first_day (sym z)
from [] m x t e (suc k) h = absurd (omega (arith, h))
from (y ∷ l) m x t e (suc k) h =
    let here : y ≡ x + month_length m = eqb-true y (x + month_length m) (guard_test (eqb y (x + month_length m)) (neighbours (suc m) y l) t) in
    let z : suc m + k ≡ m + suc k = omega arith in
    from l (suc m) y (guarded (eqb y (x + month_length m)) (neighbours (suc m) y l) t) (here ∙ ap (λ (d : ℕ). d + month_length m) e) k (omega (arith, h)) ∙ ap first_day z

-- the test, over the whole table
pub rule : neighbours 0 (get_or table 0 0) (drop 1 table) ≡ true
unfolding months_all table
rule = refl

pub in_table : (k : ℕ) → k < months → get_or table k 0 ≡ first_day k
unfolding first_day table
in_table k h = let z : 0 + k ≡ k = omega arith in from (drop 1 table) 0 0 rule refl k h ∙ ap first_day z

-- a later month begins no earlier
pub later : (m k : ℕ) → first_day m ≤ first_day (m + k)
unfolding first_day
later m zero = let z : m + 0 ≡ m = omega arith in rw z (omega arith)
later m (suc k) = let z : m + suc k ≡ suc (m + k) = omega arith in rw z (omega (arith, later m k))
