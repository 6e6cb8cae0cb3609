-- `table::set_mark` meets its contract: a store past the end changes nothing. Assumes nothing.
use mathlib.Core.Path.{sym}
use native.Mathlib.Omega.{arith}
use lib.Seq.{set_out}
use borrow.Author.Rules.{rules}
use Rattle.hashtable.proofs.table.set_mark.Goals as goal

pub returns-else-slot-marks : goal.returns-else-slot-marks
returns-else-slot-marks c = let x = c.args in sym (set_out x.marks.now x.slot x.m (omega arith))
