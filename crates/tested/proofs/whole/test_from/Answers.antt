-- `whole::test_from` meets its contract: where the pass comes to the end of the line, the cells tell whether each pair falls. Assumes nothing.
use Rattle.tested.proofs.Decided.{from-fine, from-not-falling, from-stuck, from-odd, from-roomy}
use Rattle.std.specs.Prelude.{Err}
use mathlib.Core.Path.{◌∙◌, ap}
use Rattle.tested.proofs.whole.test_from.Goals as goal

pub returns-then-all_low : goal.returns-then-all_low
returns-then-all_low c = from-fine c.go_along.ensures _ c.in-Ok.is c.all_low.ensures c.if-all_low.true

pub returns-else-all_low : goal.returns-else-all_low
returns-else-all_low c = from-not-falling c.go_along.ensures _ c.in-Ok.is c.all_low.ensures c.if-all_low.false

pub returns-in-Err-Unreadable : goal.returns-in-Err-Unreadable
returns-in-Err-Unreadable c = from-stuck c.go_along.ensures (c.in-Err-Unreadable.is ∙ ap Err c.in-Err-Unreadable.field-0-is)

pub returns-in-Err-AtOdds : goal.returns-in-Err-AtOdds
returns-in-Err-AtOdds c = from-odd c.go_along.ensures _ (c.in-Err-AtOdds.is ∙ ap Err c.in-Err-AtOdds.field-0-is) c.at_odds.ensures

pub returns-in-Err-NoRoom : goal.returns-in-Err-NoRoom
returns-in-Err-NoRoom c = from-roomy c.go_along.ensures (c.in-Err-NoRoom.is ∙ ap Err c.in-Err-NoRoom.field-0-is)
