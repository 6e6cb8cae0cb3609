-- `links::link::new_seconds` meets its contract: the store is asked where commits wait by time. Assumes nothing.
use Rattle.hash.proofs.Tests.{clash}
use Rattle.links.proofs.link.new_seconds.Goals as goal

pub returns-then-timed : goal.returns-then-timed
returns-then-timed c = λ t. c.seconds_noting-s.ensures.0

pub returns : goal.returns
returns c = λ t. clash t c.if-timed.false
