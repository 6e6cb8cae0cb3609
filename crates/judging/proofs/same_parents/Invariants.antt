-- `same_parents` meets its contract: after k turns the first k parents are the same. What is left grows less. Assumes nothing.
use Prim.Native.Nat.{◌-◌}
use Rattle.judging.proofs.Judging.{Comparing}
use Rattle.hash.specs.Bytes.{width_of}
use Rattle.judging.proofs.same_parents.Given as goal

abbrev pub invariant-loop-k : goal.invariant-loop-k
invariant-loop-k l = Comparing (width_of l.kind) l.graph l.l l.position l.body l.n l.k

abbrev pub decreases-loop-k : goal.decreases-loop-k
decreases-loop-k l = l.n - l.k
