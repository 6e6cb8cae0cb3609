-- `stain_parents` meets its contract: after i turns the first i parents of the body are stained. What is left of them grows less. Assumes nothing.
use Prim.Native.Nat.{◌-◌}
use Rattle.object.specs.Header.{header}
use Rattle.stain.proofs.Staining.{Passing}
use Rattle.hash.specs.Bytes.{width_of}
use Rattle.stain.proofs.stain_parents.Given as goal

abbrev pub invariant-loop-i : goal.invariant-loop-i
invariant-loop-i l = Passing (width_of l.kind) (header (width_of l.kind) l.body) l.names l.marks l.initial.levels l.levels l.cap l.own l.count l.i

abbrev pub decreases-loop-i : goal.decreases-loop-i
decreases-loop-i l = l.count - l.i
