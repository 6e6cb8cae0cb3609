-- `calendar::begun` meets its contract: the numbers that are left shrink between a term that has begun and one that has not. Assumes nothing.
use mathlib.Core.Path.{◌≡◌, refl, sym, ◌∙◌, ap, subst}
use Prim.Native.Nat.{ℕ, ◌+◌, ◌-◌, ◌/◌, ◌≤◌, ◌<◌}
use native.Mathlib.Omega.{arith}
use borrow.Author.Rules.{rules}
use Rattle.calendar.specs.Months.{first_day, tabled}
use Rattle.calendar.specs.Terms.{first_month}
use Rattle.calendar.proofs.Begins.{Left, all_left, upward, downward, one_left}
use Rattle.calendar.proofs.begun.Goals as goal

pub loop-low-init : goal.loop-low-init
loop-low-init c = let x = c.args in all_left x.terms.now x.day

pub loop-low-preserved-then-first_day-day : goal.loop-low-preserved-then-first_day-day
loop-low-preserved-then-first_day-day c =
    let x = c.args in
    let mid = c.loop-low.low + (c.loop-low.high - c.loop-low.low) / 2 in
    let e : first_day (tabled (first_month x.terms.now mid)) ≡ c.first_day.result = ap (λ (m : ℕ). first_day (tabled m)) (sym c.month.ensures.0) ∙ sym c.first_day.ensures in
    upward c.loop-low.invariant mid (omega arith) (omega (arith, c.loop-low-test.true)) (omega (arith, e, c.if-first_day-day.true))

pub loop-low-preserved : goal.loop-low-preserved
loop-low-preserved c =
    let x = c.args in
    let mid = c.loop-low.low + (c.loop-low.high - c.loop-low.low) / 2 in
    let e : first_day (tabled (first_month x.terms.now mid)) ≡ c.first_day.result = ap (λ (m : ℕ). first_day (tabled m)) (sym c.month.ensures.0) ∙ sym c.first_day.ensures in
    downward c.loop-low.invariant mid (omega arith) (omega (arith, c.loop-low-test.true)) (omega (arith, e, c.if-first_day-day.false))

pub returns : goal.returns
returns c = one_left c.loop-low.invariant c.loop-low-test.false
