-- `put::hundreds` meets its contract: a digit, and the last two behind it. Assumes nothing.
use Rattle.swatch.proofs.Puts.{puts_first}
use Rattle.swatch.proofs.put.hundreds.Goals as goal

pub returns : goal.returns
returns c = puts_first c.byte-next.ensures c.digit.ensures c.tens.ensures
