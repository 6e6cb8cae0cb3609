-- `wire::queue_of` meets its contract, field by field. Assumes nothing.
use Rattle.wire.specs.Words.{queue_of}
use borrow.Author.Rules.{rules}
use Rattle.wire.proofs.queue_of.Goals as goal

pub returns : goal.returns
unfolding queue_of
returns c = λ k. record { timed = c.flag.ensures k; newest = c.flag-2.ensures k; cap = c.count.ensures k; head = c.count-2.ensures k; count = c.count-3.ensures k; next = c.low.ensures k }
