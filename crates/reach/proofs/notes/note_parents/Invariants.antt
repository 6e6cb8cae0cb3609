-- `notes::note_parents` meets its contract: after i turns the first i parents of the body are noted. What is left of them grows less. Assumes nothing.
use Prim.Native.Nat.{◌-◌}
use Rattle.object.specs.Header.{header}
use Rattle.reach.specs.Memory.{lent}
use Rattle.reach.proofs.Noting.{Passing}
use Rattle.hash.specs.Bytes.{width_of}
use Rattle.reach.proofs.notes.note_parents.Given as goal

abbrev pub invariant-loop-i : goal.invariant-loop-i
invariant-loop-i l = Passing (width_of l.kind) l.second l.cap l.from (header (width_of l.kind) l.body) (lent l.initial.names l.initial.marks l.initial.line) (lent l.names l.marks l.line) l.n l.count l.i l.have

abbrev pub decreases-loop-i : goal.decreases-loop-i
decreases-loop-i l = l.count - l.i
