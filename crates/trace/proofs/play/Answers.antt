-- `play` meets its contract: at the start, with no move, or by the first forcing parent. Assumes nothing.
use mathlib.Core.Path.{refl, ◌∙◌, ap}
use native.Mathlib.Omega.{arith}
use Rattle.hash.specs.Bytes.{Id, among, width_of}
use Rattle.walk.specs.Opening.{list_ids}
use Rattle.trace.proofs.Answering.{play-start, play-still, play-moved}
use Rattle.trace.proofs.play.Goals as goal

-- src/lib.rt:97:9
pub returns-then-is_among : goal.returns-then-is_among
returns-then-is_among c = let x = c.args in play-start (width_of x.kind) x.store.now (list_ids (width_of x.kind) x.list.now) x.d _ (c.is_among.ensures ∙ ap (λ (y : Id). among y (list_ids (width_of x.kind) x.list.now)) c.id_slice.ensures) c.if-is_among.true refl

-- src/lib.rt:100:9
pub returns-then-d-eq0 : goal.returns-then-d-eq0
returns-then-d-eq0 c = let x = c.args in play-still (width_of x.kind) x.store.now (list_ids (width_of x.kind) x.list.now) x.d _ (c.is_among.ensures ∙ ap (λ (y : Id). among y (list_ids (width_of x.kind) x.list.now)) c.id_slice.ensures) c.if-is_among.false c.if-d-eq0.true refl

-- src/lib.rt:102:53
pub overflow_sub-d : goal.overflow_sub-d
overflow_sub-d c = let h = c.if-d-eq0.false in omega (arith, h)

-- src/lib.rt:93:1
pub returns : goal.returns
returns c = let x = c.args in play-moved (width_of x.kind) x.store.now (list_ids (width_of x.kind) x.list.now) x.d _ (c.is_among.ensures ∙ ap (λ (y : Id). among y (list_ids (width_of x.kind) x.list.now)) c.id_slice.ensures) c.if-is_among.false c.if-d-eq0.false c.first_forcing-i.ensures c.forced_by.ensures
