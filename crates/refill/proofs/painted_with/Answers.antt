-- `refill::painted_with` meets its contract: what left the queue is struck. Assumes nothing.
use Rattle.refill.proofs.Ending.{ends}
use Rattle.refill.proofs.painted_with.Goals as goal

pub returns : goal.returns
returns c = ends c.struck_after.ensures
