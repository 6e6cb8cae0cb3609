-- `linenhatch::linenhatch_next` meets its contract: a call in place, or else what the call by the record says, with its answer and its record set down. Assumes
-- nothing.
use mathlib.Core.Path.{◌≡◌, ◌∙◌, ap}
use lib.IntN.{ℤ}
use mir.Syntax.{w64}
use mir.Val.{to_z, of_z}
use mir.Facts.{to_z-of_z}
use Rattle.traverse.specs.Open.{lent_of}
use Rattle.traverse.specs.Next.{files_lent}
use Rattle.wire.specs.Numbers.{settings_of}
use Rattle.linenhatch.proofs.Calls.{no_room-says, made_in_place, made_after, next_of}
use Rattle.linenhatch.proofs.linenhatch_next.Goals as goal

pub returns-then-not-can_call : goal.returns-then-not-can_call
returns-then-not-can_call c =
    let x = c.args in
    let told : to_z w64 (of_z w64 x.cutoff) ≡ x.cutoff = to_z-of_z c.ranges.cutoff in
    let e = c.settings_of-settings.ensures ∙ ap (λ (z : ℤ). settings_of x.width x.sorting x.limited z x.first) told in
    next_of (ap (files_lent x.store.now x.graph.now x.hidden.now x.excluded.now) e)
    (no_room-says (files_lent x.store.now x.graph.now x.hidden.now x.excluded.now c.settings_of-settings.result) (lent_of x.names.now x.marks.now x.levels.now x.times.now x.line.now x.parents.now) x.words.now x.id.now x.numbers.now x.seconds.now
    c.can_call.ensures c.if-not-can_call.true)

pub returns-then-made-ne-NOT_MADE : goal.returns-then-made-ne-NOT_MADE
returns-then-made-ne-NOT_MADE c =
    let x = c.args in
    let told : to_z w64 (of_z w64 x.cutoff) ≡ x.cutoff = to_z-of_z c.ranges.cutoff in
    let e = c.settings_of-settings.ensures ∙ ap (λ (z : ℤ). settings_of x.width x.sorting x.limited z x.first) told in
    next_of (ap (files_lent x.store.now x.graph.now x.hidden.now x.excluded.now) e)
    (made_in_place c.next_by_topology_or_commit_date-made.ensures c.if-made-ne-NOT_MADE.true c.can_call.ensures (c.if-not-can_call.false))

pub returns : goal.returns
returns c =
    let x = c.args in
    let told : to_z w64 (of_z w64 x.cutoff) ≡ x.cutoff = to_z-of_z c.ranges.cutoff in
    let e = c.settings_of-settings.ensures ∙ ap (λ (z : ℤ). settings_of x.width x.sorting x.limited z x.first) told in
    next_of (ap (files_lent x.store.now x.graph.now x.hidden.now x.excluded.now) e)
    (made_after (c.next_by_topology_or_commit_date-made.ensures.still c.if-made-ne-NOT_MADE.false) c.decode.ensures c.can_call.ensures (c.if-not-can_call.false) c.once-o.ensures c.put_answer-n.ensures c.put_record.ensures)
