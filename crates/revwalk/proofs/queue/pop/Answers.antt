-- By time it is the heap's pop, otherwise the ring's.
use borrow.Author.Rules.{rules}
use Rattle.revwalk.proofs.queue.pop.Goals as goal

pub returns-then-q : goal.returns-then-q
returns-then-q c = c.pop.ensures.own c.if-q.true

pub returns-else-q : goal.returns-else-q
returns-else-q c = (c.pop-else-q.ensures c.args.times.now).own c.if-q.false
