-- `prepare::wash` meets its contract: after n turns the first n marks lack painting's bits and the others are as they were. Assumes nothing.
-- HEAD-END
use mathlib.Core.Path.{◌≡◌}
use Prim.Native.Nat.{◌-◌, ◌≤◌}
use lib.ListN.{length}
use Rattle.frontier.specs.Prepare.{washed}
use Rattle.frontier.proofs.prepare.wash.Given as goal

abbrev pub invariant-loop-slot : goal.invariant-loop-slot
invariant-loop-slot l = (l.slot ≤ l.cap) × (length l.marks ≡ length l.initial.marks) × (l.marks ≡ washed l.slot l.initial.marks)

abbrev pub decreases-loop-slot : goal.decreases-loop-slot
decreases-loop-slot l = length l.initial.marks - l.slot
