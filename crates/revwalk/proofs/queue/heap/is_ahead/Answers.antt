-- The keys are those of the two slots' seconds. Assumes nothing.
use borrow.Author.Rules.{rules}
use Rattle.revwalk.proofs.queue.heap.is_ahead.Goals as goal

pub returns : goal.returns
returns c =
    rw (c.to_queue_key-x.ensures, c.to_queue_key-y.ensures, c.seconds_of.ensures, c.seconds_of-2.ensures) at c.is_sooner.ensures
