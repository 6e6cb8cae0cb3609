-- `fsck::first_false` meets its contract: while the names before entry k are true, what is found from 0 on is what is found from k on. Assumes nothing.
use mathlib.Core.Path.{◌≡◌}
use Prim.Native.Nat.{◌-◌, ◌≤◌}
use Rattle.odb.specs.Store.{entries}
use Rattle.fsck.specs.Names.{first_false}
use Rattle.fsck.proofs.first_false.Given as goal

abbrev pub invariant-loop-k : goal.invariant-loop-k
invariant-loop-k l = (l.n ≡ entries l.store) × (l.k ≤ l.n) × (first_false l.kind l.store 0 (entries l.store) ≡ first_false l.kind l.store l.k (l.n - l.k))

abbrev pub decreases-loop-k : goal.decreases-loop-k
decreases-loop-k l = l.n - l.k
