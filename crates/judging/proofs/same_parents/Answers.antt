-- `same_parents` meets its contract: after k turns the first k parents are the same. What is left grows less. Assumes nothing.
use Rattle.judging.proofs.Judging.{comparing_first, comparing-next, comparing-stop, comparing-last}
use Rattle.hash.specs.Bytes.{width_of}
use Rattle.hash.proofs.Widths.{width-most}
use Rattle.judging.proofs.same_parents.Goals as goal

pub loop-k-init : goal.loop-k-init
loop-k-init c = let x = c.args in comparing_first (width_of x.kind) x.graph.now x.l x.position x.body.now x.n

pub returns-then-not-same : goal.returns-then-not-same
returns-then-not-same c = comparing-stop c.loop-k.invariant (width-most c.args.kind) c.loop-k-test.true c.body_parent-id.result c.row_parent.ensures c.body_parent-id.ensures c.id_slice.ensures c.same.ensures c.if-not-same.true

pub loop-k-preserved : goal.loop-k-preserved
loop-k-preserved c = comparing-next c.loop-k.invariant (width-most c.args.kind) c.loop-k-test.true c.body_parent-id.result c.row_parent.ensures c.body_parent-id.ensures c.id_slice.ensures c.same.ensures c.if-not-same.false

pub returns : goal.returns
returns c = comparing-last c.loop-k.invariant c.loop-k-test.false
