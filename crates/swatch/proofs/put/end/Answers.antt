-- `put::end` meets its contract: four bytes, one behind the other. Assumes nothing.
use Rattle.swatch.specs.Text.{end_line}
use Rattle.swatch.proofs.Puts.{puts_then}
use Rattle.swatch.proofs.put.end.Goals as goal

pub returns : goal.returns
unfolding end_line
returns c = puts_then c.byte-e.ensures (puts_then c.byte-n.ensures (puts_then c.byte-d.ensures c.byte.ensures))
