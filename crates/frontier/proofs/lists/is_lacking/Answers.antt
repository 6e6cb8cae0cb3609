-- `lists::is_lacking` meets its contract: the mark of the slot that holds the id is the id's, and an id without a slot has none. Assumes nothing.
use Rattle.frontier.proofs.Steps.{lacks-found, lacks-vacant, lacks-full}
use Rattle.frontier.proofs.lists.is_lacking.Goals as goal

pub returns-in-Found : goal.returns-in-Found
returns-in-Found c = record { right = λ w names cap x f. lacks-found c.args.bits f _ c.in-Found.is c.lacks_bits.ensures c.mark_of.ensures }

pub returns-in-Vacant : goal.returns-in-Vacant
returns-in-Vacant c = record { right = λ w names cap x f. lacks-vacant c.args.bits f _ c.in-Vacant.is c.lacks_bits-in-Vacant.ensures }

pub returns-in-Full : goal.returns-in-Full
returns-in-Full c = record { right = λ w names cap x f. lacks-full c.args.bits f c.in-Full.is c.lacks_bits-in-Full.ensures }
