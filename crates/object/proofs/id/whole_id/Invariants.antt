-- `object::whole_id` meets its contract: each byte that is stored is the slice's at that place. Assumes nothing.
use mathlib.Core.Path.{refl}
use Prim.Native.Nat.{◌-◌}
use borrow.Author.Rules.{rules}
use Rattle.object.proofs.IdBytes.{Copying, copying_none, copying_more, copying_all}
use Rattle.object.proofs.id.whole_id.Given as goal

abbrev pub invariant-loop-i : goal.invariant-loop-i
invariant-loop-i l = Copying l.x l.bytes l.i

abbrev pub decreases-loop-i : goal.decreases-loop-i
decreases-loop-i l = 32 - l.i
