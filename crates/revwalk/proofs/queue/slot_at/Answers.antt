-- By time it is a place of the heap, otherwise of the ring.
use Rattle.revwalk.proofs.QueueGood.{reads-timed, reads-ring}
use borrow.Author.Rules.{rules}
use Rattle.revwalk.proofs.queue.slot_at.Goals as goal

pub returns-then-q : goal.returns-then-q
returns-then-q c = reads-timed c.if-q.true c.slot_at.ensures

pub returns-else-q : goal.returns-else-q
returns-else-q c = reads-ring c.if-q.false c.slot_at-else-q.ensures
