-- `stain_all` meets its contract: after i turns the commits of the first i places have stained their parents. Places that are left grow less. Assumes nothing.
use Prim.Native.Nat.{◌-◌}
use Rattle.reach.specs.Memory.{lent}
use Rattle.stain.proofs.Staining.{Lining}
use Rattle.hash.specs.Bytes.{width_of}
use Rattle.stain.proofs.stain_all.Given as goal

abbrev pub invariant-loop-i : goal.invariant-loop-i
invariant-loop-i l = Lining (width_of l.kind) l.store (lent l.names l.marks l.line) l.initial.levels l.levels l.cap l.n l.i

abbrev pub decreases-loop-i : goal.decreases-loop-i
decreases-loop-i l = l.n - l.i
