-- `refill::leave_frontier` meets its contract: the seconds are read again, the frontier leaves the queue, and what left is struck. Assumes nothing.
use Rattle.refill.proofs.Ending.{leaves}
use Rattle.refill.proofs.leave_frontier.Goals as goal

pub returns : goal.returns
returns c = leaves c.read_again.ensures c.without_frontier-left.ensures c.painted_with.ensures
