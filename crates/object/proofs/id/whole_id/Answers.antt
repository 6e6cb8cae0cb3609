-- `object::whole_id` meets its contract: each byte that is stored is the slice's at that place. Assumes nothing.
use mathlib.Core.Path.{refl}
use Prim.Native.Nat.{◌-◌}
use borrow.Author.Rules.{rules}
use Rattle.object.proofs.IdBytes.{Copying, copying_none, copying_more, copying_all}
use Rattle.object.proofs.id.whole_id.Goals as goal

pub loop-i-init : goal.loop-i-init
loop-i-init c = copying_none _

pub loop-i-preserved : goal.loop-i-preserved
loop-i-preserved c = copying_more c.loop-i.invariant (search rules) refl

pub returns : goal.returns
returns c = copying_all c.loop-i.invariant (search rules)
