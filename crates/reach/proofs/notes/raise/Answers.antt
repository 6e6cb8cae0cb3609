-- `notes::raise` meets its contract: a mark that has the bit stays, and another gains it. Assumes nothing.
use Rattle.reach.proofs.Marked.{raise-known, raise-given}
use Rattle.reach.proofs.notes.raise.Goals as goal

pub returns-then-has_bit : goal.returns-then-has_bit
returns-then-has_bit c = let x = c.args in raise-known x.second x.marks.now x.slot c.mark_of-m.ensures c.has_bit.ensures c.if-has_bit.true

pub returns : goal.returns
returns c = let x = c.args in raise-given x.second x.marks.now x.slot c.mark_of-m.ensures c.has_bit.ensures c.if-has_bit.false c.with_bit.ensures c.set_mark.ensures c.fresh.ensures
