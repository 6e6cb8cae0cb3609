-- `bodyvisit::taking::visit_parents_here` meets its contract: the invariant is its own contract for the parents so far. Assumes nothing.
use mathlib.Core.Path.{refl, ◌∙◌}
use native.Mathlib.Omega.{arith}
use Rattle.bodyvisit.proofs.Bodies.{body-start, body-next, body-done}
use Rattle.bodyvisit.proofs.taking.visit_parents_here.Goals as goal

pub loop-k-init : goal.loop-k-init
loop-k-init c = (record { for_names = refl; for_marks = refl; for_times = refl; for_line = refl }, refl, body-start)

pub loop-k-smaller : goal.loop-k-smaller
loop-k-smaller c = omega (arith, c.loop-k-test.true)

pub loop-k-preserved : goal.loop-k-preserved
loop-k-preserved c = let k = c.visit_parent_here-at.auto in let v = c.loop-k.invariant.0 in (record { for_names = k.names ∙ v.for_names; for_marks = k.marks ∙ v.for_marks; for_times = k.times ∙ v.for_times; for_line = k.line ∙ v.for_line }, k.levels ∙ c.loop-k.invariant.1, body-next c.loop-k.invariant.2 c.loop-k-test.true c.visit_parent_here-at.ensures)

pub shape_of-names : goal.shape_of-names
shape_of-names c = c.loop-k.invariant.0.for_names

pub shape_of-marks : goal.shape_of-marks
shape_of-marks c = c.loop-k.invariant.0.for_marks

pub shape_of-levels : goal.shape_of-levels
shape_of-levels c = c.loop-k.invariant.1

pub shape_of-times : goal.shape_of-times
shape_of-times c = c.loop-k.invariant.0.for_times

pub shape_of-line : goal.shape_of-line
shape_of-line c = c.loop-k.invariant.0.for_line

pub returns : goal.returns
returns c = body-done c.loop-k.invariant.2 (omega (arith, c.loop-k-test.false))
