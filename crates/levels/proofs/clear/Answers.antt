-- `levels::clear` meets its contract: the places before i hold 0, and no other has changed. Assumes nothing.
use borrow.Author.Rules.{rules}
use native.Mathlib.Omega.{arith}
use mathlib.Core.Path.{◌≡◌, refl, ◌∙◌, subst}
use Prim.Native.Nat.{ℕ}
use Rattle.levels.specs.Search.{Cleared}
use Rattle.levels.proofs.Whole.{clear_none, clear_next}
use Rattle.levels.proofs.clear.Goals as goal

pub loop-i-init : goal.loop-i-init
loop-i-init c = (omega arith, refl, clear_none _)

pub loop-i-preserved : goal.loop-i-preserved
loop-i-preserved c = (search rules, c.put.auto.s ∙ c.loop-i.invariant.1, clear_next c.loop-i.i c.loop-i.invariant.2 c.put.ensures)

pub shape_of-levels : goal.shape_of-levels
shape_of-levels c = c.loop-i.invariant.1

pub returns : goal.returns
returns c = let x = c.args in
    let e : c.loop-i.i ≡ x.n = omega arith in
    subst (λ (i : ℕ). Cleared i x.levels.now c.loop-i.levels) e c.loop-i.invariant.2
