-- `merge_base` meets its contract: the tests decide first; then the steps. Assumes nothing.
use mathlib.Core.Path.{◌≡◌, refl, sym, ◌∙◌, ap}
use lib.ListN.{length}
use Rattle.std.specs.Prelude.{Ok}
use Rattle.std.proofs.lemmas.Result.{err_from_is_err_and}
use Rattle.object.specs.Ids.{id_room}
use Rattle.reading.proofs.ByValue.{id_in-width}
use Rattle.mergebase.specs.Memory.{answer_of}
use Rattle.mergebase.proofs.Call.{call-refused, call-parts}
use Rattle.mergebase.proofs.Partings.{base-told}
use borrow.Author.Rules.{rules}
use Rattle.hash.specs.Bytes.{width_of}
use Rattle.hash.proofs.Widths.{width-most}
use Rattle.mergebase.proofs.merge_base.Goals as goal

pub returns-in_err-check : goal.returns-in_err-check
returns-in_err-check c =
    let wide-one : length c.args.one.bytes ≡ id_room = search rules in
    let wide-other : length c.args.other.bytes ≡ id_room = search rules in
    let x = c.args in
    let p = err_from_is_err_and c.from_residual.result c.from_residual.ensures.1 in
    rw (p.1, p.2) (call-refused x.kind x.store.now _ _ x.names.now x.marks.now x.levels.now x.line.now _ _ (id_in-width (width_of x.kind) (width-most x.kind) x.one.bytes wide-one) (id_in-width (width_of x.kind) (width-most x.kind) x.other.bytes wide-other) c.check.ensures _ c.in_err-check.was refl)

pub returns-in_err-place : goal.returns-in_err-place
returns-in_err-place c =
    let wide-one : length c.args.one.bytes ≡ id_room = search rules in
    let wide-other : length c.args.other.bytes ≡ id_room = search rules in
    let x = c.args in
    let p = err_from_is_err_and c.from_residual-in_err-place.result c.from_residual-in_err-place.ensures.1 in
    rw (p.1, p.2) (call-parts x.kind x.store.now _ _ x.names.now x.marks.now x.levels.now x.line.now _ _ (id_in-width (width_of x.kind) (width-most x.kind) x.one.bytes wide-one) (id_in-width (width_of x.kind) (width-most x.kind) x.other.bytes wide-other) c.check.ensures c.in_ok-check.was c.places.ensures c.id_slice.ensures c.id_slice-2.ensures c.part_tips.ensures
    (sym (ap (answer_of (width_of x.kind) c.part_tips.new.names) c.in_err-place.was)))

pub returns-in_default : goal.returns-in_default
returns-in_default c =
    let wide-one : length c.args.one.bytes ≡ id_room = search rules in
    let wide-other : length c.args.other.bytes ≡ id_room = search rules in
    let x = c.args in
    call-parts x.kind x.store.now _ _ x.names.now x.marks.now x.levels.now x.line.now _ _ (id_in-width (width_of x.kind) (width-most x.kind) x.one.bytes wide-one) (id_in-width (width_of x.kind) (width-most x.kind) x.other.bytes wide-other) c.check.ensures c.in_ok-check.was c.places.ensures c.id_slice.ensures c.id_slice-2.ensures c.part_tips.ensures
    (sym (ap (answer_of (width_of x.kind) c.part_tips.new.names) (c.in_ok-place.was ∙ ap Ok c.in_default.is)))

pub returns : goal.returns
returns c =
    let wide-one : length c.args.one.bytes ≡ id_room = search rules in
    let wide-other : length c.args.other.bytes ≡ id_room = search rules in
    let x = c.args in
    call-parts x.kind x.store.now _ _ x.names.now x.marks.now x.levels.now x.line.now _ _ (id_in-width (width_of x.kind) (width-most x.kind) x.one.bytes wide-one) (id_in-width (width_of x.kind) (width-most x.kind) x.other.bytes wide-other) c.check.ensures c.in_ok-check.was c.places.ensures c.id_slice.ensures c.id_slice-2.ensures c.part_tips.ensures
    (base-told (width_of x.kind) c.part_tips.new.names c.in-Some.slot c.id_of.ensures c.id_of-id.ensures ∙ sym (ap (answer_of (width_of x.kind) c.part_tips.new.names) (c.in_ok-place.was ∙ ap Ok c.in-Some.is)))
