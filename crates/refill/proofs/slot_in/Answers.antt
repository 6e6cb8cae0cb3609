-- `refill::slot_in` meets its contract: past the end stands 0. Assumes nothing.
use mathlib.Core.Path.{sym}
use lib.ListN.{get_or-eq_default}
use Rattle.refill.proofs.slot_in.Goals as goal

pub returns-else-k-line : goal.returns-else-k-line
returns-else-k-line c = sym (get_or-eq_default c.args.line.now 0 c.if-k-line.false)
