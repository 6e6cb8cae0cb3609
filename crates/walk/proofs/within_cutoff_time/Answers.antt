-- `walk::within_cutoff_time` meets its contract: only a cutoff turns seconds away, those before it. Assumes nothing.
use mathlib.Core.Path.{ap}
use mathlib.Core.Bool.{not}
use Rattle.walk.specs.Settings.{cutoff_of, not_before}
use Rattle.walk.proofs.within_cutoff_time.Goals as goal

pub returns-in-BreadthFirst : goal.returns-in-BreadthFirst
unfolding cutoff_of not_before
returns-in-BreadthFirst c = rw c.in-BreadthFirst.is

pub returns-in-ByCommitTime : goal.returns-in-ByCommitTime
unfolding cutoff_of not_before
returns-in-ByCommitTime c = rw c.in-ByCommitTime.is

pub returns-in-ByCommitTimeCutoff : goal.returns-in-ByCommitTimeCutoff
unfolding cutoff_of not_before
returns-in-ByCommitTimeCutoff c = rw c.in-ByCommitTimeCutoff.is (ap not c.before-in-ByCommitTimeCutoff.ensures)
