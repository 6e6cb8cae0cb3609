-- `cells::set_at` meets its contract: a store past the end changes nothing. Assumes nothing.
use mathlib.Core.Path.{sym}
use native.Mathlib.Omega.{arith}
use lib.Seq.{set_out}
use Rattle.falling.proofs.cells.set_at.Goals as goal

pub returns-else-k-line : goal.returns-else-k-line
returns-else-k-line c = let x = c.args in sym (set_out x.line.now x.k x.x (omega arith))
