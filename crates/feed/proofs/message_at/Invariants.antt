-- `feed::message_at` meets its contract. The loop's invariant: the message is found from here on, where a line starts if the flag says so. The
-- measure is what is left. Assumes nothing.
use Prim.Native.Nat.{◌-◌, ◌≤◌}
use mathlib.Core.Path.{◌≡◌}
use lib.ListN.{length, drop}
use Rattle.feed.specs.Feed.{message_from, message_of}
use Rattle.feed.proofs.message_at.Given as goal

abbrev pub invariant-loop-i : goal.invariant-loop-i
invariant-loop-i l = (l.i ≤ length l.body) × (message_of l.body ≡ message_from l.fresh (drop l.i l.body))

abbrev pub decreases-loop-i : goal.decreases-loop-i
decreases-loop-i l = length l.body - l.i
