-- `inplace::take_first` meets its contract: the slot at the queue's first place is the one that leaves, and its row stands where it is looked for, so that its id is
-- the row's; else nothing was altered. Assumes nothing.
use mathlib.Core.Path.{◌∙◌, ap, subst}
use Rattle.hash.specs.Bytes.{Id, width_of}
use Rattle.hashtable.specs.Table.{id_of}
use Rattle.traverse.specs.Contract.{lengths_of}
use Rattle.inplace.specs.InPlace.{StandsAt}
use Rattle.inplace.proofs.InPlace.{not_made, first-left, first_taken}
use Rattle.inplace.proofs.take_first.Goals as goal

pub returns-then-not-stands_at : goal.returns-then-not-stands_at
returns-then-not-stands_at c = λ store. not_made store _ _ _ _ _ _ _ _

pub returns-then-take_row : goal.returns-then-take_row
unfolding lengths_of
returns-then-take_row c =
    let x = c.args in
    let h = subst (λ (y : Id). StandsAt (width_of x.settings.kind) x.graph.now x.«record».fixed.layout c.noted-near.result y)
    (c.id_of.ensures ∙ ap (id_of (width_of x.«record».fixed.kind) x.names.now) c.wide.ensures) (c.stands_at.ensures (c.if-not-stands_at.false)) in
    λ store. first_taken c.take_row.ensures store c.if-take_row.true c.requires.0 c.requires.1 c.first-slot.ensures h c.requires.2 c.take_row.auto.parents
    (λ j. record { names = c.take_row.auto.names j; marks = c.take_row.auto.marks j; levels = c.take_row.auto.levels j; times = c.take_row.auto.times j; line = c.take_row.auto.line j; parents = c.take_row.auto.parents j })

pub returns : goal.returns
returns c = λ store. first-left c.take_row.ensures store c.if-take_row.false
