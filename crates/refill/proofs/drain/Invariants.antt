-- `refill::drain` meets its contract: what was taken out stands in order, and with what is left it is the whole list. Assumes nothing.
use Prim.Native.Nat.{◌-◌}
use Rattle.refill.proofs.Draining.{Draining}
use Rattle.refill.proofs.drain.Given as goal

abbrev pub invariant-loop-i : goal.invariant-loop-i
invariant-loop-i l = Draining l.initial.rest l.times l.base l.n l.initial.line l.rest l.line l.i

abbrev pub decreases-loop-i : goal.decreases-loop-i
decreases-loop-i l = l.n - l.i
