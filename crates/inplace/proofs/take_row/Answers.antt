-- `inplace::take_row` meets its contract: what is promised of the first of the queue and of its row's parents, and what is set down after them; of a row that is not
-- plain nothing was changed. Assumes nothing.
use mathlib.Core.Path.{refl}
use Rattle.hash.proofs.Tests.{clash}
use Rattle.inplace.proofs.InPlace.{put_as}
use Rattle.inplace.proofs.take_row.Goals as goal

pub returns-in-Some : goal.returns-in-Some
returns-in-Some c = let x = c.args in
    let row = c.in-Some.row in
    let y = rw c.in-Some.is at c.take_plain.ensures in
    record {
      still = λ e. clash refl e;
      taken = λ e. (row.after, row.parents, row.level, row.seconds, y.right, put_as x.«record» x.settings x.graph.now x.position _ row.level row.seconds row.after c.id_at.ensures c.level_shown.ensures c.time_given.ensures c.put_commit.ensures, c.put_waiting.ensures);
    }

pub returns-in-None : goal.returns-in-None
returns-in-None c = let s = (rw c.in-None.is at c.take_plain.ensures).right in
    record { still = λ e. ((λ i. record { memory = s.0 i; levels = s.1 i; parents = s.2 i }), refl, refl, refl, refl); taken = λ e. clash e refl }
