-- `cells::all_low` meets its contract: after k turns the first k pairs lie below their cells. What is left grows less. Assumes nothing.
use Prim.Native.Nat.{◌-◌}
use Rattle.falling.proofs.Lowest.{LowTo}
use Rattle.falling.proofs.cells.all_low.Given as goal

abbrev pub invariant-loop-k : goal.invariant-loop-k
invariant-loop-k l = LowTo l.line l.levels l.times l.from l.n l.k

abbrev pub decreases-loop-k : goal.decreases-loop-k
decreases-loop-k l = l.n - l.k
