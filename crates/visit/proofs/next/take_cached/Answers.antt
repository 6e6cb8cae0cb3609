-- `visit::next::take_cached` meets its contract: the row's parents were visited, or its list is corrupt and nothing was changed: then the graph is dropped,
-- and the commit goes back. Assumes nothing.
use lib.ListN.{length}
use Rattle.object.specs.Ids.{id_room}
use mathlib.Core.Path.{◌≡◌, ◌∙◌}
use borrow.Author.Rules.{rules}
use Rattle.reading.proofs.ByValue.{id_in-kind}
use Rattle.visit.proofs.Takings.{cached-visited, cached-torn}
use Rattle.visit.proofs.next.take_cached.Goals as goal

pub shape_of-names-in-Some : goal.shape_of-names-in-Some
shape_of-names-in-Some c = c.visit_cached.auto.names

pub shape_of-marks-in-Some : goal.shape_of-marks-in-Some
shape_of-marks-in-Some c = c.visit_cached.auto.marks

pub shape_of-levels-in-Some : goal.shape_of-levels-in-Some
shape_of-levels-in-Some c = c.visit_cached.auto.levels

pub shape_of-times-in-Some : goal.shape_of-times-in-Some
shape_of-times-in-Some c = c.visit_cached.auto.times

pub shape_of-line-in-Some : goal.shape_of-line-in-Some
shape_of-line-in-Some c = c.visit_cached.auto.line

pub shape_of-parents-in-Some : goal.shape_of-parents-in-Some
shape_of-parents-in-Some c = c.visit_cached.auto.parents

pub returns-in-Some : goal.returns-in-Some
returns-in-Some c =
    let room : length c.args.first.id.bytes ≡ id_room = search (rules, c.well_formed.1.0.1.1.1.0.1.1.0.1.0.1) in
    let x = c.args in cached-visited c.visit_cached.ensures (id_in-kind x.settings.kind x.first.id.bytes room) c.in-Some.is c.give_row.ensures

pub shape_of-names-in-None : goal.shape_of-names-in-None
shape_of-names-in-None c = c.take_stored.auto.names ∙ c.visit_cached.auto.names

pub shape_of-marks-in-None : goal.shape_of-marks-in-None
shape_of-marks-in-None c = c.take_stored.auto.marks ∙ c.visit_cached.auto.marks

pub shape_of-levels-in-None : goal.shape_of-levels-in-None
shape_of-levels-in-None c = c.take_stored.auto.levels ∙ c.visit_cached.auto.levels

pub shape_of-times-in-None : goal.shape_of-times-in-None
shape_of-times-in-None c = c.take_stored.auto.times ∙ c.visit_cached.auto.times

pub shape_of-line-in-None : goal.shape_of-line-in-None
shape_of-line-in-None c = c.take_stored.auto.line ∙ c.drop_graph-back.auto.line ∙ c.visit_cached.auto.line

pub shape_of-parents-in-None : goal.shape_of-parents-in-None
shape_of-parents-in-None c = c.take_stored.auto.parents ∙ c.visit_cached.auto.parents

pub returns-in-None : goal.returns-in-None
returns-in-None c = cached-torn c.visit_cached.ensures c.in-None.is (rw c.with_waiting-rest.ensures at c.drop_graph-back.ensures) c.take_stored.ensures
