-- `put::commit` meets its contract: its parts, one behind the other. Assumes nothing.
use native.Mathlib.Omega.{arith}
use Rattle.swatch.specs.Text.{commit_line}
use Rattle.swatch.proofs.Puts.{puts_then}
use Rattle.swatch.proofs.put.commit.Goals as goal

pub returns : goal.returns
unfolding commit_line
returns c = λ h. puts_then c.hex_id-next.ensures (puts_then c.byte-space.ensures (puts_then (c.number-after.ensures (omega arith)) c.byte.ensures))
