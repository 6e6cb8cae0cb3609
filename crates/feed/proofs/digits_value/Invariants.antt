-- `feed::digits_value` meets its contract. The loop's invariant: the value has i digits, and goes on with what follows as the number does.
-- The measure is what is left. Assumes nothing.
use Prim.Native.Nat.{◌-◌, ◌^◌, ◌≤◌, ◌<◌}
use mathlib.Core.Path.{◌≡◌}
use lib.ListN.{length, drop}
use Rattle.feed.specs.Feed.{decimal}
use Rattle.feed.proofs.digits_value.Given as goal

abbrev pub invariant-loop-i : goal.invariant-loop-i
invariant-loop-i l = (l.i ≤ length l.b) × (l.value < 10 ^ l.i) × (decimal 0 l.b ≡ decimal l.value (drop l.i l.b))

abbrev pub decreases-loop-i : goal.decreases-loop-i
decreases-loop-i l = length l.b - l.i
