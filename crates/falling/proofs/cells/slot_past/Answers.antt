-- `cells::slot_past` meets its contract: past the end the slot is 0. Assumes nothing.
use mathlib.Core.Path.{sym}
use native.Mathlib.Omega.{arith}
use lib.ListN.{get_or-eq_default}
use Rattle.falling.proofs.cells.slot_past.Goals as goal

pub returns-then-line-from : goal.returns-then-line-from
returns-then-line-from c = let x = c.args in sym (get_or-eq_default x.line.now 0 (omega arith))

pub returns-then-rest-n : goal.returns-then-rest-n
returns-then-rest-n c = let x = c.args in sym (get_or-eq_default x.line.now 0 (omega arith))

pub returns-then-rest-n-2 : goal.returns-then-rest-n-2
returns-then-rest-n-2 c = let x = c.args in sym (get_or-eq_default x.line.now 0 (omega arith))
