-- `cells::at` meets its contract: past the end the number is 0. Assumes nothing.
use mathlib.Core.Path.{sym}
use lib.ListN.{get_or-eq_default}
use Rattle.falling.proofs.cells.at.Goals as goal

pub returns-then-line-k : goal.returns-then-line-k
returns-then-line-k c = sym (get_or-eq_default c.args.line.now 0 c.if-line-k.true)
