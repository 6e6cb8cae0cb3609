-- `slots::pair_of` meets its contract: the pair is made of the slot's level and its seconds. Assumes nothing.
use Rattle.falling.proofs.slots.pair_of.Goals as goal

pub returns : goal.returns
returns c = λ k. record { generation = c.level_of.ensures k; time = c.seconds_of.ensures k }
