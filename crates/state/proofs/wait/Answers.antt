-- `state::wait` meets its contract: what waits in the record is lengthened. Assumes nothing.
use Rattle.state.proofs.Queueing.{waits_of}
use Rattle.state.proofs.wait.Goals as goal

pub returns : goal.returns
returns c =
    rw c.with_waiting.ensures (waits_of {w = c.waiting_of.result} c.waiting_of.ensures (c.lengthen-longer.ensures c.args.r))
