-- `inplace::stored::take_stored` meets its contract: the slot at the queue's first place is the one that leaves, and the store has its commit; else nothing was altered.
-- Assumes nothing.
use mathlib.Core.Path.{◌∙◌, ap, subst}
use Rattle.hash.specs.Bytes.{Id, width_of}
use Rattle.hashtable.specs.Table.{id_of}
use Rattle.object.specs.Ids.{padded}
use Rattle.odb.specs.Lookup.{Locates}
use Rattle.traverse.specs.Contract.{lengths_of}
use Rattle.inplace.proofs.InPlace.{not_made}
use Rattle.inplace.proofs.Bodies.{stored-goes}
use Rattle.inplace.proofs.stored.take_stored.Goals as goal

pub returns-in-Body : goal.returns-in-Body
unfolding lengths_of
returns-in-Body c =
    let x = c.args in
    stored-goes c.take_body.ensures c.first-slot.ensures (c.id_of-x.ensures ∙ ap padded (c.id_of.ensures ∙ ap (id_of (width_of x.«record».fixed.kind) x.names.now) c.wide.ensures))
    (subst (λ (y : Id). Locates (width_of x.settings.kind) x.store.now y c.locate_near-at.result) c.id_slice.ensures c.locate_near-at.ensures) c.in-Body.is c.body.ensures
    c.requires.0 c.requires.1 c.take_body.auto.parents
    (λ j. record { names = c.take_body.auto.names j; marks = c.take_body.auto.marks j; levels = c.take_body.auto.levels j; times = c.take_body.auto.times j; line = c.take_body.auto.line j; parents = c.take_body.auto.parents j })

pub returns-in-Absent : goal.returns-in-Absent
returns-in-Absent c = not_made _ _ _ _ _ _ _ _ _
