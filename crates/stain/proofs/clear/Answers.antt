-- `clear` meets its contract: after n turns the first n levels are 0 and the others as they were. Assumes nothing.
use borrow.Author.Rules.{rules}
use mathlib.Core.Path.{refl, ◌∙◌, ap}
use Prim.Native.Nat.{ℕ}
use native.Mathlib.Omega.{arith}
use native.Mathlib.Numerals.{add-one}
use lib.ListN.{length-set}
use Rattle.hashtable.specs.Table.{cleared}
use Rattle.hashtable.proofs.TableClear.{cleared_more, cleared-all}
use Rattle.stain.proofs.clear.Goals as goal

pub loop-slot-init : goal.loop-slot-init
unfolding cleared
loop-slot-init c = (search rules, refl, refl)

pub shape_of-levels-then-cap-slot : goal.shape_of-levels-then-cap-slot
shape_of-levels-then-cap-slot c = c.loop-slot.invariant.1

pub returns-then-cap-slot : goal.returns-then-cap-slot
returns-then-cap-slot c = c.loop-slot.invariant.2 ∙ ap (λ (n : ℕ). cleared n c.args.levels.now) (omega arith)

pub loop-slot-preserved : goal.loop-slot-preserved
loop-slot-preserved c =
    let o = c.args.levels.now in
    (search rules, simp length-set c.loop-slot.invariant.1, rw (c.loop-slot.invariant.2, add-one) (cleared_more c.loop-slot.slot o (omega arith)))

pub shape_of-levels : goal.shape_of-levels
shape_of-levels c = c.loop-slot.invariant.1

pub returns : goal.returns
returns c = c.loop-slot.invariant.2 ∙ cleared-all c.loop-slot.slot c.args.cap c.args.levels.now (omega arith) (omega arith)
