-- `put::tens` meets its contract: two digits, one behind the other. Assumes nothing.
use Rattle.swatch.proofs.Puts.{puts_first, puts_one}
use Rattle.swatch.proofs.put.tens.Goals as goal

pub returns : goal.returns
returns c = puts_first c.byte-next.ensures c.digit.ensures (puts_one c.byte.ensures c.digit-2.ensures)
