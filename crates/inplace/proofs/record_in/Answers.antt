-- `inplace::record_in` meets its contract, field by field. Assumes nothing.
use Rattle.wire.specs.Words.{record_of}
use Rattle.inplace.proofs.record_in.Goals as goal

pub returns : goal.returns
unfolding record_of
returns c = λ k. record { live = c.flag.ensures k; painted = c.flag-2.ensures k; failed = c.flag-3.ensures k; kept = c.flag-4.ensures k; fixed = c.fixed_in.ensures k; queue = c.queue_of.ensures k; admitted = c.count.ensures k; struck = c.count-2.ensures k }
