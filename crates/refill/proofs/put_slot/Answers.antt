-- `refill::put_slot` meets its contract: a store past the end changes nothing. Assumes nothing.
use mathlib.Core.Path.{sym}
use native.Mathlib.Omega.{arith}
use lib.Seq.{set_out}
use Rattle.refill.proofs.put_slot.Goals as goal

pub returns-else-k-line : goal.returns-else-k-line
returns-else-k-line c = sym (set_out c.args.line.now c.args.k c.args.slot (omega arith))
