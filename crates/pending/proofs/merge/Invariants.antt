-- `merge` meets its contract: what is set down and what is still to be merged make the whole list, and of the two first slots
-- the one that comes first in it is set down next. Assumes nothing.
use Prim.Native.Nat.{◌+◌, ◌-◌}
use Rattle.pending.specs.Pending.{ahead}
use Rattle.pending.proofs.RunsMerged.{Merging}
use Rattle.pending.proofs.merge.Given as goal

abbrev pub invariant-loop-b : goal.invariant-loop-b
invariant-loop-b l = Merging (ahead l.levels l.times) l.initial.line l.line l.low l.high l.start l.end l.o l.a l.b

abbrev pub decreases-loop-b : goal.decreases-loop-b
decreases-loop-b l = (l.high - l.b) + (l.end - l.a)
