-- `step::read_in` meets its contract: the body of the commit in the slot says whether it is readable. Assumes nothing.
use mathlib.Core.Path.{refl, sym, ◌∙◌}
use Rattle.hash.specs.Bytes.{width_of}
use Rattle.tested.specs.Passes.{held}
use Rattle.tested.proofs.Steps.{step-err}
use Rattle.tested.proofs.step.read_in.Goals as goal

pub shape_of-names-in-Ok : goal.shape_of-names-in-Ok
shape_of-names-in-Ok c = c.judge_and_take.auto.names

pub shape_of-marks : goal.shape_of-marks
shape_of-marks c = c.judge_and_take.auto.marks

pub shape_of-levels : goal.shape_of-levels
shape_of-levels c = c.judge_and_take.auto.levels

pub shape_of-times : goal.shape_of-times
shape_of-times c = c.judge_and_take.auto.times

pub shape_of-line : goal.shape_of-line
shape_of-line c = c.judge_and_take.auto.line

pub returns-in-Ok : goal.returns-in-Ok
returns-in-Ok c = c.judge_and_take.ensures.right c.body_in-body.ensures _ (sym c.readable.ensures ∙ c.in-Ok.is) refl

pub shape_of-names-in-Err : goal.shape_of-names-in-Err
shape_of-names-in-Err c = refl

pub returns-in-Err : goal.returns-in-Err
returns-in-Err c = let x = c.args in step-err (width_of x.kind) x.cache x.graph.now x.cap x.from (held x.names.now x.marks.now x.levels.now x.times.now x.line.now) x.n c.body_in-body.ensures _ (sym c.readable.ensures ∙ c.in-Err.is)
