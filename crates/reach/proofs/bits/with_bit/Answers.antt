-- `bits::with_bit` meets its contract: the bit of the search that is asked for. Assumes nothing.
use Rattle.reach.specs.Memory.{with_bit}
use Rattle.reach.proofs.bits.with_bit.Goals as goal

pub returns-then-second : goal.returns-then-second
unfolding with_bit
returns-then-second c = rw c.if-second.true c.with_hidden.ensures

pub returns-else-second : goal.returns-else-second
unfolding with_bit
returns-else-second c = rw c.if-second.false c.with_visible.ensures
