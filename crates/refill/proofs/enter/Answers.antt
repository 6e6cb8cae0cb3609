-- `refill::enter` meets its contract: a slot in the frontier is passed over, another one is pushed. Assumes nothing.
use Rattle.refill.proofs.Refilling.{told-front, enters_out, enters_in}
use Rattle.refill.proofs.enter.Goals as goal

pub returns-then-in_frontier : goal.returns-then-in_frontier
returns-then-in_frontier c = enters_out (told-front c.args.marks.now c.in_frontier.ensures c.wide.ensures c.if-in_frontier.true)

pub returns : goal.returns
returns c = enters_in (told-front c.args.marks.now c.in_frontier.ensures c.wide.ensures c.if-in_frontier.false) c.push.ensures
