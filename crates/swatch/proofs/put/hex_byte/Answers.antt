-- `put::hex_byte` meets its contract: two digits, one behind the other. Assumes nothing.
use Rattle.swatch.specs.Text.{hex}
use Rattle.swatch.proofs.Puts.{puts_first, puts_one}
use Rattle.swatch.proofs.put.hex_byte.Goals as goal

pub returns : goal.returns
unfolding hex
returns c = puts_first c.byte-next.ensures c.hex_digit.ensures (puts_one c.byte.ensures c.hex_digit-2.ensures)
