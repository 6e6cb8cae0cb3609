-- `refill::refill` meets its contract: the queue holds what is left of the slots passed. Assumes nothing.
use Rattle.refill.proofs.Refilling.{refill_none, refill-more, refill_all}
use borrow.Author.Rules.{rules}
use Rattle.refill.proofs.refill.Goals as goal

pub loop-i-init : goal.loop-i-init
loop-i-init c = refill_none _ _ _ _ _ _

pub loop-i-preserved : goal.loop-i-preserved
loop-i-preserved c = refill-more c.loop-i.invariant (search rules) c.slot_in-slot.ensures c.enter-longer.ensures

pub shape_of-line : goal.shape_of-line
shape_of-line c = c.loop-i.invariant.long

pub returns : goal.returns
returns c = refill_all c.loop-i.invariant (search rules)
