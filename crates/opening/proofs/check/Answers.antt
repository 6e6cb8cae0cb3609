-- `opening::check` meets its contract: 2 to 6 decide first, then the room, then the tips. Assumes nothing.
use mathlib.Core.Path.{◌≡◌, refl, sym, ◌∙◌, ap}
use Rattle.std.proofs.lemmas.Result.{err_from_is_err_and}
use Rattle.walk.specs.Opening.{refusal, room_for}
use Rattle.opening.specs.Checks.{input_of, lengths_of, checked_by}
use Rattle.opening.proofs.Input.{passes}
use Rattle.opening.proofs.Tips.{refused_as, fine_as, tips-right}
use Rattle.opening.proofs.Opened.{open-refused, open-short, open_roomy}
use Rattle.opening.proofs.check.Goals as goal

pub returns-in_err-check_input : goal.returns-in_err-check_input
returns-in_err-check_input c = let x = c.args in
    let i = input_of x.store.now x.graph.now x.tips.now x.hidden.now x.excluded.now x.settings in
    let room = room_for i (lengths_of x.names x.marks x.levels x.times x.line x.parents) in
    let p = err_from_is_err_and c.from_residual.result c.from_residual.ensures.1 in
    rw (p.1, p.2) (sym (open-refused i room (refused_as (refusal i) (sym c.in_err-check_input.was ∙ c.check_input.ensures x.settings refl))))

pub returns-then-not-has_room : goal.returns-then-not-has_room
returns-then-not-has_room c = let x = c.args in
    let i = input_of x.store.now x.graph.now x.tips.now x.hidden.now x.excluded.now x.settings in
    let room = room_for i (lengths_of x.names x.marks x.levels x.times x.line x.parents) in
    let room_said = c.has_room.ensures i refl (c.capacity-cap.ensures x.excluded.now x.settings refl) in
    sym (open-short i room (fine_as (refusal i) (sym c.in_ok-check_input.was ∙ c.check_input.ensures x.settings refl)) (sym room_said ∙ c.if-not-has_room.true))

pub returns : goal.returns
returns c = let x = c.args in
    let i = input_of x.store.now x.graph.now x.tips.now x.hidden.now x.excluded.now x.settings in
    let room = room_for i (lengths_of x.names x.marks x.levels x.times x.line x.parents) in
    let accepted = fine_as (refusal i) (sym c.in_ok-check_input.was ∙ c.check_input.ensures x.settings refl) in
    let room_said = c.has_room.ensures i refl (c.capacity-cap.ensures x.excluded.now x.settings refl) in
    tips-right i c.check_tips.ensures (passes i accepted).store-good ∙ sym (ap checked_by (open_roomy i room accepted (sym room_said ∙ c.if-not-has_room.false)))
