-- By time it is the heap's push, otherwise the slot goes to the front of the ring.
use Rattle.revwalk.proofs.QueueRing.{back-timed}
use borrow.Author.Rules.{rules}
use Rattle.revwalk.proofs.queue.put_back.Goals as goal

pub returns-then-q : goal.returns-then-q
returns-then-q c = back-timed c.if-q.true c.push.ensures

pub returns-else-q : goal.returns-else-q
returns-else-q c = c.put_front.ensures c.args.times.now
