-- `rowvisit::plain::pop` meets its contract: by time it is the heap's pop, otherwise the ring's. Assumes nothing.
use Rattle.rowvisit.proofs.plain.pop.Goals as goal

pub returns-then-q : goal.returns-then-q
returns-then-q c = c.pop.ensures.own c.if-q.true

pub returns : goal.returns
returns c = (c.pop-2.ensures c.args.times.now).own c.if-q.false
