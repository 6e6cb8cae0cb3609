-- `walk::is_timed` meets its contract: it goes by the same cases. Assumes nothing.
use Rattle.walk.specs.Settings.{timed}
use Rattle.walk.proofs.is_timed.Goals as goal

pub returns-in-BreadthFirst : goal.returns-in-BreadthFirst
unfolding timed
returns-in-BreadthFirst c = rw c.in-BreadthFirst.is

pub returns-in-ByCommitTime : goal.returns-in-ByCommitTime
unfolding timed
returns-in-ByCommitTime c = rw c.in-ByCommitTime.is

pub returns-in-ByCommitTimeCutoff : goal.returns-in-ByCommitTimeCutoff
unfolding timed
returns-in-ByCommitTimeCutoff c = rw c.in-ByCommitTimeCutoff.is
