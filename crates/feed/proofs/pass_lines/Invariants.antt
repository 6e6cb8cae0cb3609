-- `feed::pass_lines` meets its contract. The loop's invariant: the lines passed and those from here on tell what all lines tell. The measure is
-- what is left. Assumes nothing.
use Prim.Native.Nat.{◌-◌}
use mathlib.Core.Path.{◌≡◌}
use lib.ListN.{length, drop}
use Rattle.feed.specs.Feed.{lines_of}
use Rattle.feed.specs.Passing.{pass_lines, nothing_yet}
use Rattle.feed.proofs.pass_lines.Given as goal

abbrev pub invariant-loop-p : goal.invariant-loop-p
invariant-loop-p l = pass_lines nothing_yet (lines_of (drop l.at l.body)) ≡ pass_lines l.lines (lines_of (drop l.p l.body))

abbrev pub decreases-loop-p : goal.decreases-loop-p
decreases-loop-p l = length l.body - l.p
