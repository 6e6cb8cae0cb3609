-- `lowering::lower_new` meets its contract: after k turns the cells of the first k have the child. What is left grows less. Assumes nothing.
use Rattle.falling.proofs.ParentCells.{new-first, new-next, new-last}
use Rattle.hash.specs.Bytes.{width_of}
use Rattle.falling.proofs.lowering.lower_new.Goals as goal

pub loop-k-init : goal.loop-k-init
loop-k-init c = let x = c.args in new-first (width_of x.kind) x.from x.n x.c x.child x.line.now

pub loop-k-preserved : goal.loop-k-preserved
loop-k-preserved c = new-next c.loop-k.invariant c.loop-k-test.true c.slot_past-slot.ensures c.fill_at.auto.line c.fill_at.ensures

pub shape_of-line : goal.shape_of-line
shape_of-line c = c.loop-k.invariant.long

pub returns : goal.returns
returns c = new-last c.loop-k.invariant c.loop-k-test.false
