-- `refill::refill` meets its contract: the queue holds what is left of the slots passed. Assumes nothing.
use Prim.Native.Nat.{◌-◌}
use Rattle.refill.proofs.Refilling.{Refilling}
use Rattle.refill.proofs.refill.Given as goal

abbrev pub invariant-loop-i : goal.invariant-loop-i
invariant-loop-i l = Refilling l.initial.longer l.marks l.times l.base l.n l.initial.line l.longer l.line l.i

abbrev pub decreases-loop-i : goal.decreases-loop-i
decreases-loop-i l = l.n - l.i
