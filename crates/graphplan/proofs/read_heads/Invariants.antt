-- `graphplan::read_heads` meets its contract: while the entries before k are readable, what is found of them is held. Assumes nothing.
use Prim.Native.Nat.{◌-◌, ◌≤◌}
use Rattle.hash.specs.Bytes.{width_of}
use Rattle.graphplan.proofs.Planning.{Reading}
use Rattle.graphplan.proofs.read_heads.Given as goal

abbrev pub invariant-loop-k : goal.invariant-loop-k
invariant-loop-k l = (l.k ≤ l.n) × Reading (width_of l.kind) l.store l.good l.e l.k

abbrev pub decreases-loop-k : goal.decreases-loop-k
decreases-loop-k l = l.n - l.k
