-- `calendar::begun` meets its contract: the numbers that are left shrink between a term that has begun and one that has not. Assumes nothing.
use mathlib.Core.Path.{◌≡◌, refl, sym, ◌∙◌, ap, subst}
use Prim.Native.Nat.{ℕ, ◌+◌, ◌-◌, ◌/◌, ◌≤◌, ◌<◌}
use native.Mathlib.Omega.{arith}
use borrow.Author.Rules.{rules}
use Rattle.calendar.specs.Months.{first_day, tabled}
use Rattle.calendar.specs.Terms.{first_month}
use Rattle.calendar.proofs.Begins.{Left, all_left, upward, downward, one_left}
use Rattle.calendar.proofs.begun.Given as goal

abbrev pub invariant-loop-low : goal.invariant-loop-low
invariant-loop-low l = Left l.terms l.day l.low l.high

abbrev pub decreases-loop-low : goal.decreases-loop-low
decreases-loop-low l = l.high - l.low
