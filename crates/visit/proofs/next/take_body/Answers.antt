-- `visit::next::take_body` meets its contract: the body's parents are visited, and the answer is of the record after them. Assumes nothing.
use mathlib.Core.Path.{◌≡◌}
use lib.ListN.{length}
use Rattle.object.specs.Ids.{id_room}
use Rattle.reading.proofs.ByValue.{id_in-kind}
use Rattle.visit.proofs.Takings.{takes_body}
use borrow.Author.Rules.{rules}
use Rattle.visit.proofs.next.take_body.Goals as goal

pub shape_of-names : goal.shape_of-names
shape_of-names c = c.visit_body-seen.auto.names

pub shape_of-marks : goal.shape_of-marks
shape_of-marks c = c.visit_body-seen.auto.marks

pub shape_of-levels : goal.shape_of-levels
shape_of-levels c = c.visit_body-seen.auto.levels

pub shape_of-times : goal.shape_of-times
shape_of-times c = c.visit_body-seen.auto.times

pub shape_of-line : goal.shape_of-line
shape_of-line c = c.visit_body-seen.auto.line

pub shape_of-parents : goal.shape_of-parents
shape_of-parents c = c.visit_body-seen.auto.parents

pub returns : goal.returns
returns c =
    let room : length c.args.first.id.bytes ≡ id_room = search rules in
    let x = c.args in takes_body _ c.visit_body-seen.ensures (rw c.time_given.ensures at c.end_body.ensures) (id_in-kind x.settings.kind x.first.id.bytes room)
