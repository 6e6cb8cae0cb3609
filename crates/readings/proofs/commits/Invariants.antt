-- Each commit takes a byte at least.
use Rattle.std.proofs.Common.{length, ◌-◌}
use Rattle.readings.proofs.commits.Given as goal

abbrev pub decreases-loop-at : goal.decreases-loop-at
decreases-loop-at g l = length l.s - l.at
