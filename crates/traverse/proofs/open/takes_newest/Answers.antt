-- `open::takes_newest` meets its contract: it goes by the same cases. Assumes nothing.
use Rattle.walk.specs.Settings.{newest_first}
use Rattle.traverse.proofs.open.takes_newest.Goals as goal

pub returns-in-BreadthFirst : goal.returns-in-BreadthFirst
unfolding newest_first
returns-in-BreadthFirst c = rw c.in-BreadthFirst.is

pub returns-in-ByCommitTime : goal.returns-in-ByCommitTime
unfolding newest_first
returns-in-ByCommitTime c = rw c.in-ByCommitTime.is c.is_newest.ensures

pub returns-in-ByCommitTimeCutoff : goal.returns-in-ByCommitTimeCutoff
unfolding newest_first
returns-in-ByCommitTimeCutoff c = rw c.in-ByCommitTimeCutoff.is c.is_newest-in-ByCommitTimeCutoff.ensures
