-- `paint` meets its contract: the marks are washed and the waiting commits sorted, and then the painting is the walk's. Assumes nothing.
-- HEAD-END
use Rattle.frontier.proofs.PaintAll.{paints, too_many}
use Rattle.frontier.proofs.compute_hidden_frontier.Goals as goal

-- src/lib.rt:93:9
pub returns-then-cap-n : goal.returns-then-cap-n
returns-then-cap-n c = too_many c.if-cap-n.true

-- src/lib.rt:73:1
pub returns : goal.returns
returns c = paints c.wash.ensures c.visible_inputs_sorted.ensures c.paint_from.ensures
