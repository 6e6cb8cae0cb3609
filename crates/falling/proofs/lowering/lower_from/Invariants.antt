-- `lowering::lower_from` meets its contract: after k turns the cells of the first k parents are lowered. What is left grows less. Assumes nothing.
use Prim.Native.Nat.{◌-◌}
use Rattle.object.specs.Header.{header}
use Rattle.falling.specs.Cells.{slots_in}
use Rattle.falling.proofs.ParentCells.{LoweredTo}
use Rattle.hash.specs.Bytes.{width_of}
use Rattle.falling.proofs.lowering.lower_from.Given as goal

abbrev pub invariant-loop-k : goal.invariant-loop-k
invariant-loop-k l = LoweredTo (width_of l.kind) (slots_in l.names l.marks l.levels l.times) l.cap l.child (header (width_of l.kind) l.body) l.n l.initial.line l.line l.k

abbrev pub decreases-loop-k : goal.decreases-loop-k
decreases-loop-k l = l.n - l.k
