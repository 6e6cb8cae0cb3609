-- `refill::fail_painting` meets its contract: nothing waits, and the frontier reads empty. Assumes nothing.
use Rattle.refill.proofs.Ending.{fails}
use Rattle.refill.proofs.fail_painting.Goals as goal

pub returns : goal.returns
returns c = fails c.emptied.ensures c.painted_with.ensures
