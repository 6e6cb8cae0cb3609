-- `links::link::new_row_seconds` meets its contract: the row is asked where commits wait by time. Assumes nothing.
use Rattle.hash.proofs.Tests.{clash}
use Rattle.links.proofs.link.new_row_seconds.Goals as goal

pub returns-then-timed : goal.returns-then-timed
returns-then-timed c = λ t. c.seconds.ensures

pub returns : goal.returns
returns c = λ t. clash t c.if-timed.false
