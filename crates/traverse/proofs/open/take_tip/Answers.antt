-- `open::take_tip` meets its contract: an excluded tip is passed over, another is met in the table. Assumes nothing.
use mathlib.Core.Path.{sym, ◌∙◌}
use Rattle.state.specs.Steps.{mem}
use Rattle.traverse.proofs.OpenTips.{tip_skipped, tip-taken}
use Rattle.hash.specs.Bytes.{width_of}
use Rattle.traverse.proofs.open.take_tip.Goals as goal

pub returns-then-is_among : goal.returns-then-is_among
returns-then-is_among c = let x = c.args in tip_skipped (mem x.names.now x.marks.now x.times.now x.line.now) x.id.now x.r (sym c.is_among.ensures ∙ c.if-is_among.true)

pub shape_of-names : goal.shape_of-names
shape_of-names c = c.see-seen.auto.names

pub shape_of-marks : goal.shape_of-marks
shape_of-marks c = c.see-seen.auto.marks

pub shape_of-times : goal.shape_of-times
shape_of-times c = c.add_to_queue.auto.times

pub shape_of-line : goal.shape_of-line
shape_of-line c = c.add_to_queue.auto.line

pub returns : goal.returns
returns c =
    let x = c.args in
    tip-taken (width_of x.kind) x.store.now x.excluded.now x.sorting (sym c.is_among.ensures ∙ c.if-is_among.false) c.see-seen.ensures c.tip_admission.ensures c.add_to_queue.ensures
