-- `bits::has_bit` meets its contract: the bit of the search that is asked for. Assumes nothing.
use Rattle.reach.specs.Memory.{has_bit}
use Rattle.reach.proofs.bits.has_bit.Goals as goal

pub returns-then-second : goal.returns-then-second
unfolding has_bit
returns-then-second c = rw c.if-second.true c.has_hidden.ensures

pub returns-else-second : goal.returns-else-second
unfolding has_bit
returns-else-second c = rw c.if-second.false c.has_visible.ensures
