-- `slots::set_level` meets its contract: a store past the end changes nothing. Assumes nothing.
-- HEAD-END
use mathlib.Core.Path.{sym}
use native.Mathlib.Omega.{arith}
use lib.Seq.{set_out}
use Rattle.frontier.proofs.slots.set_level.Goals as goal

-- src/slots.rt:57:1
pub returns-else-i-levels : goal.returns-else-i-levels
returns-else-i-levels c = let x = c.args in sym (set_out x.levels.now x.slot x.level.0 (omega arith))
