-- `calendar::months::first_day` meets its contract: the table's rule is one test over the whole of it, which is computed. Assumes nothing.
use mathlib.Core.Path.{◌≡◌, refl, sym, ◌∙◌, ap}
use mathlib.Core.Bool.{Bool, cond}
use Prim.Native.Nat.{ℕ}
use borrow.Author.Tests.{lt-ltb, le-ltb}
use borrow.Author.Rules.{rules}
use Rattle.calendar.specs.Months.{first_day, months, tabled, months_all}
use Rattle.calendar.specs.Table.{table}
use Rattle.calendar.proofs.Table.{in_table}
use Rattle.calendar.proofs.months.first_day.Goals as goal

pub returns-then-month-lt1560 : goal.returns-then-month-lt1560
unfolding table
returns-then-month-lt1560 c = let m = c.args.month in
    c.wide.ensures ∙ in_table m c.if-month-lt1560.true ∙ ap first_day (sym (ap (λ (b : Bool). cond b m months) (lt-ltb m months c.if-month-lt1560.true)))

pub returns : goal.returns
unfolding months_all
returns c = let m = c.args.month in
    ap (λ (b : Bool). first_day (cond b m months)) (sym (le-ltb m months c.if-month-lt1560.false))
