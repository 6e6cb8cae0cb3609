-- `table::first_of` meets its contract: the test is the definition's. Assumes nothing.
use mathlib.Core.Path.{sym}
use Rattle.hashtable.proofs.TableProbe.{earlier-low, earlier-high}
use Rattle.hashtable.proofs.table.first_of.Goals as goal

pub returns-then-a-cap : goal.returns-then-a-cap
returns-then-a-cap c = let x = c.args in sym (earlier-low x.cap x.a x.b c.if-a-cap.true)

pub returns-else-a-cap : goal.returns-else-a-cap
returns-else-a-cap c = let x = c.args in sym (earlier-high x.cap x.a x.b c.if-a-cap.false)
