-- `lowering::lower_from` meets its contract: after k turns the cells of the first k parents are lowered. What is left grows less. Assumes nothing.
use Rattle.object.specs.Header.{header}
use Rattle.falling.specs.Cells.{slots_in}
use Rattle.falling.proofs.ParentCells.{lowering_first, lowering-next, lowering-last}
use Rattle.hash.specs.Bytes.{width_of}
use Rattle.hash.proofs.Widths.{width-most}
use Rattle.falling.proofs.lowering.lower_from.Goals as goal

pub loop-k-init : goal.loop-k-init
loop-k-init c = let x = c.args in lowering_first (width_of x.kind) (slots_in x.names.now x.marks.now x.levels.now x.times.now) x.cap x.child (header (width_of x.kind) x.body.now) x.n x.line.now

pub loop-k-preserved : goal.loop-k-preserved
loop-k-preserved c = lowering-next c.args.body.now c.loop-k.invariant (width-most c.args.kind) c.loop-k-test.true c.body_parent-id.result c.body_parent-id.ensures c.id_slice.ensures c.lower_to.auto.line c.lower_to.ensures

pub shape_of-line : goal.shape_of-line
shape_of-line c = c.loop-k.invariant.long

pub returns : goal.returns
returns c = lowering-last c.args.body.now c.loop-k.invariant c.loop-k-test.false
