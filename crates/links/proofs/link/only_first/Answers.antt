-- `links::link::only_first` meets its contract: it goes by the same cases. Assumes nothing.
use Rattle.walk.specs.Settings.{only_first}
use Rattle.links.proofs.link.only_first.Goals as goal

pub returns-in-All : goal.returns-in-All
unfolding only_first
returns-in-All c = rw c.in-All.is

pub returns-in-First : goal.returns-in-First
unfolding only_first
returns-in-First c = rw c.in-First.is
