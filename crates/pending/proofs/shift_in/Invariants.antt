-- `shift_in` meets its contract: up to place i the slots have moved down by one, and the new slot goes strictly before none
-- of them; the gap at i - 1 takes it. Assumes nothing.
use Rattle.pending.specs.Pending.{ahead}
use Rattle.pending.proofs.Pushing.{Moving}
use Rattle.pending.proofs.shift_in.Given as goal

abbrev pub invariant-loop-i : goal.invariant-loop-i
invariant-loop-i l = Moving (ahead l.levels l.times) l.initial.line l.line l.head l.tail l.slot l.i
