-- A turn exchanges the hole with the child that goes first, whatever is to fill it; it ends at a leaf.
use borrow.Author.Rules.{rules}
use Prim.Native.Nat.{◌-◌}
use native.Mathlib.Omega.{arith}
use Rattle.revwalk.specs.Order.{goes}
use Rattle.revwalk.proofs.QueueShares.{lawful}
use Rattle.revwalk.proofs.QueueMoves.{Sinking, sink_begin, sink-step, sink-less, sink-end}
use Rattle.revwalk.proofs.queue.heap.sink.Goals as goal

pub loop-i-init : goal.loop-i-init
loop-i-init c = sink_begin _ _ _ _ c.requires.0

pub loop-i-smaller : goal.loop-i-smaller
loop-i-smaller c = omega (arith, sink-less (lawful _ _ _) c.loop-i.invariant c.requires.1 c.first_child-c.result c.loop-i-test.true c.first_child-c.ensures)

pub loop-i-preserved : goal.loop-i-preserved
loop-i-preserved c = sink-step (lawful _ _ _) c.loop-i.invariant c.requires.1 c.first_child-c.result c.loop-i-test.true c.first_child-c.ensures

pub shape_of-line : goal.shape_of-line
shape_of-line c = c.loop-i.invariant.long

pub returns : goal.returns
returns c = sink-end (lawful _ _ _) c.loop-i.invariant c.requires.1 c.loop-i-test.false
