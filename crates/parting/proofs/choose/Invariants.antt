-- `choose` meets its contract: after i turns the choice is that among the first i places. Places that are left grow less. Assumes nothing.
use Prim.Native.Nat.{◌-◌}
use Rattle.parting.proofs.Choosing.{Choosing}
use Rattle.hash.specs.Bytes.{width_of}
use Rattle.parting.proofs.choose.Given as goal

abbrev pub invariant-loop-i : goal.invariant-loop-i
invariant-loop-i l = Choosing (width_of l.kind) l.store l.names l.marks l.levels l.line l.n l.i l.r

abbrev pub decreases-loop-i : goal.decreases-loop-i
decreases-loop-i l = l.n - l.i
