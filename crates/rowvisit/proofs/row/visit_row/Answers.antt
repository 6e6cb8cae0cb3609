-- `rowvisit::row::visit_row` meets its contract: the invariant is its own contract for the parents so far. Assumes nothing.
use borrow.Author.Rules.{rules}
use Rattle.rowvisit.proofs.Rows.{row-start, row_next, row_done}
use mathlib.Core.Path.{refl, ◌∙◌}
use native.Mathlib.Omega.{arith}
use Rattle.rowvisit.proofs.row.visit_row.Goals as goal

pub loop-k-init : goal.loop-k-init
loop-k-init c = (search rules, refl, record { for_names = refl; for_marks = refl; for_times = refl; for_line = refl; for_parents = refl }, row-start)

pub loop-k-smaller : goal.loop-k-smaller
loop-k-smaller c = omega (arith, c.loop-k-test.true)

pub loop-k-preserved : goal.loop-k-preserved
loop-k-preserved c =
    let k = c.visit_row_parent-at.auto in
    let v = c.loop-k.invariant.2 in (
      omega (arith, c.loop-k-test.true),
      k.levels ∙ c.loop-k.invariant.1,
      record { for_names = k.names ∙ v.for_names; for_marks = k.marks ∙ v.for_marks; for_times = k.times ∙ v.for_times; for_line = k.line ∙ v.for_line; for_parents = k.parents ∙ v.for_parents },
      row_next c.loop-k.invariant.3 c.visit_row_parent-at.ensures,
    )

pub shape_of-names : goal.shape_of-names
shape_of-names c = c.loop-k.invariant.2.for_names

pub shape_of-marks : goal.shape_of-marks
shape_of-marks c = c.loop-k.invariant.2.for_marks

pub shape_of-levels : goal.shape_of-levels
shape_of-levels c = c.loop-k.invariant.1

pub shape_of-times : goal.shape_of-times
shape_of-times c = c.loop-k.invariant.2.for_times

pub shape_of-line : goal.shape_of-line
shape_of-line c = c.loop-k.invariant.2.for_line

pub shape_of-parents : goal.shape_of-parents
shape_of-parents c = c.loop-k.invariant.2.for_parents

pub returns : goal.returns
returns c = row_done c.loop-k.invariant.3 (omega (arith, c.loop-k-test.false))
