-- `lists::slot_after` meets its contract: past the end stands the default, 0. Assumes nothing.
-- HEAD-END
use mathlib.Core.Path.{sym}
use native.Mathlib.Omega.{arith}
use lib.ListN.{get_or-eq_default}
use Rattle.frontier.proofs.lists.slot_after.Goals as goal

-- src/lists.rt:64:9
pub returns-then-line-from : goal.returns-then-line-from
returns-then-line-from c = let x = c.args in sym (get_or-eq_default x.line.now 0 (omega arith))

-- src/lists.rt:67:9
pub returns-then-line-from-2 : goal.returns-then-line-from-2
returns-then-line-from-2 c = let x = c.args in sym (get_or-eq_default x.line.now 0 (omega arith))
