-- `slots::add_mark` meets its contract: what the search answered says which slot the id has, and whether it is new. Assumes nothing.
use Rattle.frontier.proofs.Gains.{as-found, as-vacant, as-full}
use Rattle.frontier.proofs.slots.add_mark.Goals as goal

pub returns-in-Found : goal.returns-in-Found
returns-in-Found c = record { right = λ cap f. as-found c.args.bits f _ c.in-Found.is c.raise.ensures.0 c.raise.ensures.1 c.slot_added.ensures }

pub returns-in-Vacant : goal.returns-in-Vacant
returns-in-Vacant c = record { right = λ cap f. as-vacant c.args.bits f _ c.in-Vacant.is c.set_nth.ensures c.with_bits.ensures c.set_mark.ensures c.slot_added-in-Vacant.ensures }

pub returns-in-Full : goal.returns-in-Full
returns-in-Full c = record { right = λ cap f. as-full c.args.bits f c.in-Full.is }
