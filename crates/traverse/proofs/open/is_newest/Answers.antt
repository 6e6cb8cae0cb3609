-- `open::is_newest` meets its contract: it goes by the same cases. Assumes nothing.
use Rattle.walk.specs.Settings.{is_newest}
use Rattle.traverse.proofs.open.is_newest.Goals as goal

pub returns-in-NewestFirst : goal.returns-in-NewestFirst
unfolding is_newest
returns-in-NewestFirst c = rw c.in-NewestFirst.is

pub returns-in-OldestFirst : goal.returns-in-OldestFirst
unfolding is_newest
returns-in-OldestFirst c = rw c.in-OldestFirst.is
