-- `linenhatch::linenhatch_open_tested` meets its contract: what the tested opening says, with its record and answer set down. Assumes nothing.
use mathlib.Core.Path.{◌≡◌, ◌∙◌, ap}
use lib.IntN.{ℤ}
use mir.Syntax.{w64}
use mir.Val.{to_z, of_z}
use mir.Facts.{to_z-of_z}
use Rattle.opening.specs.Checks.{input_of}
use Rattle.traverse.specs.Open.{lent_of}
use Rattle.wire.specs.Numbers.{settings_of}
use Rattle.linenhatch.proofs.Opens.{no_room_tested, tried_tested}
use Rattle.linenhatch.proofs.linenhatch_open_tested.Goals as goal

pub returns-then-not-can_open : goal.returns-then-not-can_open
returns-then-not-can_open c = let x = c.args in
    no_room_tested (input_of x.store.now x.graph.now x.tips.now x.hidden.now x.excluded.now (settings_of x.width x.sorting x.limited x.cutoff x.first)) (lent_of x.names.now x.marks.now x.levels.now x.times.now x.line.now x.parents.now) x.words.now x.numbers.now
    c.can_open.ensures c.if-not-can_open.true

pub returns : goal.returns
returns c =
    let x = c.args in
    let told : to_z w64 (of_z w64 x.cutoff) ≡ x.cutoff = to_z-of_z c.ranges.cutoff in
    let e = c.settings_of-settings.ensures ∙ ap (λ (z : ℤ). settings_of x.width x.sorting x.limited z x.first) told in
    let l = c.open_tested-o.new in
    tried_tested {m = lent_of x.names.now x.marks.now x.levels.now x.times.now x.line.now x.parents.now} {m' = lent_of l.names l.marks l.levels l.times l.line l.parents}
    (ap (input_of x.store.now x.graph.now x.tips.now x.hidden.now x.excluded.now) e)
    c.can_open.ensures c.if-not-can_open.false c.open_tested-o.ensures c.encode.ensures c.put_open_answer.ensures
