-- `table::clear` meets its contract: after n turns the first n marks are 0 and the others as they were. Assumes nothing.
use borrow.Author.Rules.{rules}
use mathlib.Core.Path.{◌≡◌, refl, ◌∙◌, ap}
use Prim.Native.Nat.{ℕ, ◌-◌, ◌≤◌}
use native.Mathlib.Omega.{arith}
use native.Mathlib.Numerals.{add-one}
use lib.ListN.{length, length-set}
use Rattle.hashtable.specs.Table.{cleared}
use Rattle.hashtable.proofs.TableClear.{cleared_more, cleared-all}
use Rattle.hashtable.proofs.table.clear.Goals as goal

pub loop-slot-init : goal.loop-slot-init
unfolding cleared
loop-slot-init c = (search rules, refl, refl)

pub shape_of-marks-then-cap-slot : goal.shape_of-marks-then-cap-slot
shape_of-marks-then-cap-slot c = c.loop-slot.invariant.1

pub returns-then-cap-slot : goal.returns-then-cap-slot
returns-then-cap-slot c = c.loop-slot.invariant.2 ∙ ap (λ (n : ℕ). cleared n c.args.marks.now) (omega arith)

pub loop-slot-preserved : goal.loop-slot-preserved
loop-slot-preserved c =
    let o = c.args.marks.now in
    (search rules, simp length-set c.loop-slot.invariant.1, rw (c.loop-slot.invariant.2, add-one) (cleared_more c.loop-slot.slot o (omega arith)))

pub shape_of-marks : goal.shape_of-marks
shape_of-marks c = c.loop-slot.invariant.1

pub returns : goal.returns
returns c = c.loop-slot.invariant.2 ∙ cleared-all c.loop-slot.slot c.args.cap c.args.marks.now (omega arith) (omega arith)
