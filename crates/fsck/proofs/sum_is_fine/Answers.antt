-- `fsck::sum_is_fine` meets its contract: a graph of no bytes has no checksum. Assumes nothing.
use Rattle.fsck.specs.Names.{sum_ok}
use Rattle.opening.proofs.Input.{empty-yes, empty-not}
use Rattle.fsck.proofs.sum_is_fine.Goals as goal

pub returns-then-graph-eq0 : goal.returns-then-graph-eq0
unfolding sum_ok
returns-then-graph-eq0 c = rw (empty-yes c.args.graph.now c.if-graph-eq0.true)

pub returns : goal.returns
unfolding sum_ok
returns c = rw (empty-not c.args.graph.now c.if-graph-eq0.false) c.sum_is_true.ensures
