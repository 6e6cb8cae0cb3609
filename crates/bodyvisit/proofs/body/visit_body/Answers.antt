-- `bodyvisit::body::visit_body` meets its contract: the parents whose ids were set down are visited. Assumes nothing.
use mathlib.Core.Path.{sym}
use Rattle.bodyvisit.proofs.Bodies.{body_visited}
use Rattle.bodyvisit.proofs.body.visit_body.Goals as goal

pub shape_of-parents : goal.shape_of-parents
shape_of-parents c = c.read_body-read.auto.out

pub returns : goal.returns
returns c = body_visited (sym c.only_first.ensures) c.read_body-read.auto.out c.read_body-read.ensures c.visit_parents-at.ensures
