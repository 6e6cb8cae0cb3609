-- `seek::read_at` meets its contract: the body of the commit in hand says whether it is readable, and its parent lines are noted. Assumes nothing.
use mathlib.Core.Path.{sym, ◌∙◌}
use Rattle.reach.specs.Memory.{lent}
use Rattle.reach.proofs.Seeking.{read-noted, read-err}
use Rattle.hash.specs.Bytes.{width_of}
use Rattle.reach.proofs.seek.read_at.Goals as goal

pub returns-in-Ok : goal.returns-in-Ok
returns-in-Ok c = let x = c.args in read-noted (width_of x.kind) x.second x.cap x.from (lent x.names.now x.marks.now x.line.now) x.n x.k c.slot_after-slot.ensures c.body_in-body.ensures _ _ (sym c.readable.ensures ∙ c.in-Ok.is) c.note_parents.ensures c.ok_or.ensures.value

pub returns-in-Err : goal.returns-in-Err
returns-in-Err c = let x = c.args in read-err (width_of x.kind) x.second x.cap x.from (lent x.names.now x.marks.now x.line.now) x.n x.k c.slot_after-slot.ensures c.body_in-body.ensures _ (sym c.readable.ensures ∙ c.in-Err.is)
