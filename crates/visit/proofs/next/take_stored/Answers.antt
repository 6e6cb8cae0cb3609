-- `visit::next::take_stored` meets its contract: the first of the queue is popped, and what the store has of it decides. Assumes nothing.
use mathlib.Core.Path.{◌∙◌, refl}
use Rattle.visit.proofs.Takings.{stored-none, stored-body, stored-absent}
use Rattle.visit.proofs.next.take_stored.Goals as goal

pub returns-in_default : goal.returns-in_default
returns-in_default c = rw c.end_walk.ensures (stored-none c.in_default.ensures)

pub shape_of-names-in-Body : goal.shape_of-names-in-Body
shape_of-names-in-Body c = c.take_body.auto.names

pub shape_of-marks : goal.shape_of-marks
shape_of-marks c = c.take_body.auto.marks

pub shape_of-levels-in-Body : goal.shape_of-levels-in-Body
shape_of-levels-in-Body c = c.take_body.auto.levels

pub shape_of-times-in-Body : goal.shape_of-times-in-Body
shape_of-times-in-Body c = c.take_body.auto.times

pub shape_of-line-in-Body : goal.shape_of-line-in-Body
shape_of-line-in-Body c = c.take_body.auto.line ∙ c.pop.auto.line

pub shape_of-parents : goal.shape_of-parents
shape_of-parents c = c.take_body.auto.parents

pub returns-in-Body : goal.returns-in-Body
returns-in-Body c = stored-body c.in-Some.ensures (rw c.id_slice.ensures at c.locate_near-at.ensures) c.in-Body.start c.in-Body.end c.in-Body.is c.body.ensures c.take_body.ensures

pub shape_of-names-in-Absent : goal.shape_of-names-in-Absent
shape_of-names-in-Absent c = refl

pub shape_of-levels-in-Absent : goal.shape_of-levels-in-Absent
shape_of-levels-in-Absent c = refl

pub shape_of-times-in-Absent : goal.shape_of-times-in-Absent
shape_of-times-in-Absent c = refl

pub shape_of-line-in-Absent : goal.shape_of-line-in-Absent
shape_of-line-in-Absent c = c.pop.auto.line

pub returns-in-Absent : goal.returns-in-Absent
returns-in-Absent c = rw c.refuse.ensures (stored-absent c.in-Some.ensures (rw c.id_slice.ensures at c.locate_near-at.ensures) c.in-Absent.is)
