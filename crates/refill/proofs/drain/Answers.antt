-- `refill::drain` meets its contract: what was taken out stands in order, and with what is left it is the whole list. Assumes nothing.
use mathlib.Core.Path.{refl}
use native.Mathlib.Omega.{arith}
use Rattle.refill.proofs.Draining.{drain_none, drain_more, drain_stop, drain_all}
use borrow.Author.Rules.{rules}
use Rattle.refill.proofs.drain.Goals as goal

pub loop-i-init : goal.loop-i-init
loop-i-init c = drain_none refl c.requires

pub overflow_add-base : goal.overflow_add-base
overflow_add-base c = let l = c.loop-i.invariant in omega (arith, l.fits)

pub loop-i-preserved : goal.loop-i-preserved
loop-i-preserved c = drain_more c.loop-i.invariant (search rules) c.in-Some.ensures c.put_slot.ensures

pub returns-in_default : goal.returns-in_default
returns-in_default c = drain_stop c.loop-i.invariant (search rules) c.in_default.ensures

pub shape_of-line : goal.shape_of-line
shape_of-line c = c.loop-i.invariant.long

pub returns : goal.returns
returns c = drain_all c.loop-i.invariant (search rules)
