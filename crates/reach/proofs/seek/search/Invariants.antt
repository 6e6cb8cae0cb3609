-- `seek::search` meets its contract: after k turns the first k of the line are read, and what they lead to is in the line. Slots that are left grow less. Assumes nothing.
use Prim.Native.Nat.{◌-◌}
use Rattle.reach.specs.Memory.{lent}
use Rattle.reach.proofs.Seeking.{Looping}
use Rattle.hash.specs.Bytes.{width_of}
use Rattle.reach.proofs.seek.search.Given as goal

abbrev pub invariant-loop-k : goal.invariant-loop-k
invariant-loop-k l = Looping (width_of l.kind) l.second l.cap l.from l.store (lent l.initial.names l.initial.marks l.initial.line) (lent l.names l.marks l.line) l.n l.count l.k

abbrev pub decreases-loop-k : goal.decreases-loop-k
decreases-loop-k l = l.cap - l.k
