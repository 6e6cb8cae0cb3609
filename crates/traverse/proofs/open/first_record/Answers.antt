-- `open::first_record` meets its contract: the order of the queue is that of the settings. Assumes nothing.
use mathlib.Core.Path.{sym, ◌∙◌}
use Rattle.traverse.proofs.open.first_record.Goals as goal

pub returns-then-is_by_time : goal.returns-then-is_by_time
returns-then-is_by_time c = rw (sym c.is_by_time.ensures ∙ c.if-is_by_time.true, sym c.takes_newest.ensures) c.fresh_record.ensures

pub returns : goal.returns
returns c = rw (sym c.is_by_time.ensures ∙ c.if-is_by_time.false) c.fresh_record-2.ensures
