-- `feed::pass_line` meets its contract: the line is held against each start. Assumes nothing.
use Rattle.feed.specs.Passing.{pass_line}
use Rattle.feed.proofs.pass_line.Goals as goal

pub returns : goal.returns
unfolding pass_line
returns c = (λ j. record { cone = c.with_line.ensures j; bed = c.with_line-2.ensures j })
