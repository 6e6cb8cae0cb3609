-- `clear` meets its contract: after n turns the first n levels are 0 and the others as they were. Assumes nothing.
use mathlib.Core.Path.{◌≡◌}
use Prim.Native.Nat.{◌-◌, ◌≤◌}
use lib.ListN.{length}
use Rattle.hashtable.specs.Table.{cleared}
use Rattle.stain.proofs.clear.Given as goal

abbrev pub invariant-loop-slot : goal.invariant-loop-slot
invariant-loop-slot l = (l.slot ≤ l.cap) × (length l.levels ≡ length l.initial.levels) × (l.levels ≡ cleared l.slot l.initial.levels)

abbrev pub decreases-loop-slot : goal.decreases-loop-slot
decreases-loop-slot l = length l.initial.levels - l.slot
