-- `put_in` meets its contract: up to place i the memory is the new one, from there on the old one, and the slot in hand comes
-- next. Assumes nothing.
use Rattle.pending.proofs.ByIds.{Carried}
use Rattle.pending.proofs.put_in.Given as goal

abbrev pub invariant-loop-i : goal.invariant-loop-i
invariant-loop-i l = Carried l.initial.line l.line l.k l.to l.slot l.i l.x
