-- `levels::clear` meets its contract: the places before i hold 0, and no other has changed. Assumes nothing.
use mathlib.Core.Path.{◌≡◌}
use Prim.Native.Nat.{◌-◌, ◌≤◌}
use lib.ListN.{length}
use Rattle.levels.specs.Search.{Cleared}
use Rattle.levels.proofs.clear.Given as goal

abbrev pub invariant-loop-i : goal.invariant-loop-i
invariant-loop-i l = (l.i ≤ l.n) × (length l.levels ≡ length l.initial.levels) × Cleared l.i l.initial.levels l.levels

abbrev pub decreases-loop-i : goal.decreases-loop-i
decreases-loop-i l = l.n - l.i
