-- `slots::level_of` meets its contract: past the end of the levels the list's default is 0. Assumes nothing.
use mathlib.Core.Path.{sym}
use lib.ListN.{get_or-eq_default}
use Rattle.falling.proofs.slots.level_of.Goals as goal

pub returns-else-i-levels : goal.returns-else-i-levels
returns-else-i-levels c = sym (get_or-eq_default c.args.levels.now 0 c.if-i-levels.false)
