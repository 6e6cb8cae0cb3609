-- `refill::skip_painting` meets its contract: no id has both marks, so the frontier is empty. Assumes nothing.
use Rattle.refill.proofs.Ending.{skips}
use Rattle.refill.proofs.skip_painting.Goals as goal

pub returns : goal.returns
returns c = skips c.painted_with.ensures
