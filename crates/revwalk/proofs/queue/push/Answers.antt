-- By time it is the heap's push, otherwise the ring's.
use borrow.Author.Rules.{rules}
use Rattle.revwalk.proofs.queue.push.Goals as goal

pub returns-else-q : goal.returns-else-q
returns-else-q c = c.push-else-q.ensures c.args.times.now
