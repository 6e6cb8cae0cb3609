-- `open::open` meets its contract: refused by a test, or the positions noted are cleared and the tips let in. Assumes nothing.
use mathlib.Core.Path.{refl, sym, ◌∙◌}
use Rattle.opening.specs.Checks.{input_of}
use Rattle.traverse.specs.Contract.{lengths_of}
use Rattle.traverse.specs.Open.{lent_of}
use Rattle.traverse.proofs.OpenSaid.{refused_says, accepted-says}
use Rattle.traverse.proofs.open.open.Goals as goal

pub returns-in-Err : goal.returns-in-Err
unfolding lengths_of
returns-in-Err c = let x = c.args in
    refused_says (input_of x.store.now x.graph.now x.tips.now x.hidden.now x.excluded.now x.settings) (lent_of x.names.now x.marks.now x.levels.now x.times.now x.line.now x.parents.now) _
    (sym c.in-Err.is ∙ c.check.ensures) c.refused_open.ensures

pub shape_of-names : goal.shape_of-names
shape_of-names c = c.fill.auto.names

pub shape_of-marks : goal.shape_of-marks
shape_of-marks c = c.fill.auto.marks

pub shape_of-levels : goal.shape_of-levels
shape_of-levels c = c.clear_notes.auto.levels

pub shape_of-times : goal.shape_of-times
shape_of-times c = c.fill.auto.times

pub shape_of-line : goal.shape_of-line
shape_of-line c = c.fill.auto.line

pub returns-in-Ok : goal.returns-in-Ok
unfolding lengths_of
returns-in-Ok c =
    let x = c.args in
    accepted-says (input_of x.store.now x.graph.now x.tips.now x.hidden.now x.excluded.now x.settings) (lent_of x.names.now x.marks.now x.levels.now x.times.now x.line.now x.parents.now) _ _
    (sym c.in-Ok.is ∙ c.check.ensures) c.fill.ensures c.accepted_open.ensures c.clear_notes.auto.levels refl
