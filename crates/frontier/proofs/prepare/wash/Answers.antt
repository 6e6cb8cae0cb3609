-- `prepare::wash` meets its contract: after n turns the first n marks lack painting's bits and the others are as they were. Assumes nothing.
-- HEAD-END
use mathlib.Core.Path.{refl, ◌∙◌, ap}
use Prim.Native.Nat.{ℕ}
use native.Mathlib.Omega.{arith}
use native.Mathlib.Numerals.{add-one}
use lib.ListN.{length-set}
use Rattle.frontier.specs.Prepare.{washed}
use Rattle.frontier.proofs.Wash.{washed-more, washed-all}
use borrow.Author.Rules.{rules}
use Rattle.frontier.proofs.prepare.wash.Goals as goal

-- src/prepare.rt:13:5
pub loop-slot-init : goal.loop-slot-init
unfolding washed
loop-slot-init c = (search rules, refl, refl)

-- src/prepare.rt:15:13
pub shape_of-marks-then-cap-slot : goal.shape_of-marks-then-cap-slot
shape_of-marks-then-cap-slot c = c.loop-slot.invariant.1

-- src/prepare.rt:15:13
pub returns-then-cap-slot : goal.returns-then-cap-slot
returns-then-cap-slot c = c.loop-slot.invariant.2 ∙ ap (λ (n : ℕ). washed n c.args.marks.now) (omega arith)

-- src/prepare.rt:17:23
pub overflow_mul-marks : goal.overflow_mul-marks
overflow_mul-marks c = omega (arith, c.slice_known-1.given c.loop-slot.slot)

-- src/prepare.rt:13:5
pub loop-slot-preserved : goal.loop-slot-preserved
loop-slot-preserved c =
    let o = c.args.marks.now in
    (search rules, simp length-set c.loop-slot.invariant.1, rw (c.loop-slot.invariant.2, add-one) (washed-more c.loop-slot.slot o (omega arith)))

-- src/prepare.rt:9:1
pub shape_of-marks : goal.shape_of-marks
shape_of-marks c = c.loop-slot.invariant.1

-- src/prepare.rt:9:1
pub returns : goal.returns
returns c = c.loop-slot.invariant.2 ∙ washed-all c.loop-slot.slot c.args.cap c.args.marks.now (omega arith) (omega arith)
