-- `open::clear_notes` meets its contract: each place is written, and the length stays. Assumes nothing.
use borrow.Author.Rules.{rules}
use mathlib.Core.Path.{◌≡◌, refl}
use Prim.Native.Nat.{◌-◌}
use lib.ListN.{length, length-set}
use Rattle.traverse.proofs.open.clear_notes.Goals as goal

pub loop-slot-init : goal.loop-slot-init
loop-slot-init c = refl

pub loop-slot-preserved : goal.loop-slot-preserved
loop-slot-preserved c = simp length-set c.loop-slot.invariant

pub shape_of-levels : goal.shape_of-levels
shape_of-levels c = c.loop-slot.invariant
