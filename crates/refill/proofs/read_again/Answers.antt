-- `refill::read_again` meets its contract: the first places of the queue have the seconds of their ids. Assumes nothing.
use mathlib.Core.Path.{refl}
use Rattle.refill.proofs.Rereading.{reread_none, reread_more, reread_all}
use borrow.Author.Rules.{rules}
use Rattle.refill.proofs.read_again.Goals as goal

pub loop-i-init : goal.loop-i-init
loop-i-init c = reread_none c.timed_count-n.ensures

pub loop-i-preserved : goal.loop-i-preserved
loop-i-preserved c = reread_more c.loop-i.invariant (search rules) c.slot_at.ensures refl c.read_slot.ensures

pub shape_of-times : goal.shape_of-times
shape_of-times c = c.loop-i.invariant.long

pub returns : goal.returns
returns c = reread_all c.loop-i.invariant (search rules)
