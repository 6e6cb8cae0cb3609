-- `lacking_in` meets its contract: all in front of place i have STALE, so the answer for all is the answer for the rest. Assumes nothing.
use mathlib.Core.Path.{◌≡◌}
use Prim.Native.Nat.{◌-◌}
use lib.Seq.{slice}
use Rattle.pending.specs.Pending.{stale_at, fresh}
use Rattle.pending.proofs.lacking_in.Given as goal

abbrev pub invariant-loop-i : goal.invariant-loop-i
invariant-loop-i l = fresh (stale_at l.marks) (slice l.from l.to l.line) ≡ fresh (stale_at l.marks) (slice l.i l.to l.line)

abbrev pub decreases-loop-i : goal.decreases-loop-i
decreases-loop-i l = l.to - l.i
