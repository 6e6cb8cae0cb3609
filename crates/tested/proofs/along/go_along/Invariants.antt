-- `along::go_along` meets its contract: after k turns the first k of the line are read. Slots that are left grow less. Assumes nothing.
use Prim.Native.Nat.{◌-◌}
use Rattle.tested.specs.Passes.{held}
use Rattle.tested.proofs.Steps.{Along}
use Rattle.hash.specs.Bytes.{width_of}
use Rattle.tested.proofs.along.go_along.Given as goal

abbrev pub invariant-loop-k : goal.invariant-loop-k
invariant-loop-k l = Along (width_of l.kind) l.cache l.graph l.store l.cap l.from (held l.initial.names l.initial.marks l.initial.levels l.initial.times l.initial.line) (held l.names l.marks l.levels l.times l.line) l.n l.count l.k

abbrev pub decreases-loop-k : goal.decreases-loop-k
decreases-loop-k l = l.cap - l.k
