-- `open::fill` meets its contract: emptied memory reads as the state before any tip, and then the tips come in. Assumes nothing.
use mathlib.Core.Path.{refl, ap, ◌∙◌}
use Rattle.walk.specs.Settings.{by_time, newest_first}
use mathlib.Core.Bool.{◌&&◌}
use Rattle.opening.specs.Checks.{input_of}
use Rattle.state.specs.declared.Fixed.{Fixed}
use Rattle.state.specs.Shapes.{fresh_record}
use Rattle.traverse.proofs.OpenSaid.{fills}
use Rattle.traverse.proofs.open.fill.Goals as goal

pub shape_of-names : goal.shape_of-names
shape_of-names c = c.filtered.auto.names

pub shape_of-marks : goal.shape_of-marks
shape_of-marks c = c.filtered.auto.marks ∙ c.start.auto.marks

pub shape_of-times : goal.shape_of-times
shape_of-times c = c.filtered.auto.times

pub shape_of-line : goal.shape_of-line
shape_of-line c = c.filtered.auto.line

pub returns : goal.returns
returns c = let x = c.args in
    fills (input_of x.store.now x.graph.now x.tips.now x.hidden.now x.excluded.now x.settings) (c.capacity-cap.ensures x.excluded.now x.settings refl) c.start.ensures c.start.auto.marks
    (c.first_record-r.ensures ∙ ap (λ (f : Fixed). fresh_record (by_time x.settings) (by_time x.settings && newest_first x.settings.sorting) c.capacity-cap.result f) c.fixed_for.ensures) c.filtered.ensures
