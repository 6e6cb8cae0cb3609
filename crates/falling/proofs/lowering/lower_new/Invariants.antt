-- `lowering::lower_new` meets its contract: after k turns the cells of the first k have the child. What is left grows less. Assumes nothing.
use Prim.Native.Nat.{◌-◌}
use Rattle.falling.proofs.ParentCells.{NewTo}
use Rattle.hash.specs.Bytes.{width_of}
use Rattle.falling.proofs.lowering.lower_new.Given as goal

abbrev pub invariant-loop-k : goal.invariant-loop-k
invariant-loop-k l = NewTo (width_of l.kind) l.from l.n l.c l.child l.initial.line l.line l.k

abbrev pub decreases-loop-k : goal.decreases-loop-k
decreases-loop-k l = l.c - l.k
