-- `rowvisit::numbers::level` meets its contract: the test picks the case. Assumes nothing.

use Rattle.rowvisit.proofs.numbers.level.Goals as goal

pub returns-then-l : goal.returns-then-l
returns-then-l c = rw c.if-l.true

pub returns : goal.returns
returns c = rw c.if-l.false
