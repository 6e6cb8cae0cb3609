-- `push` meets its contract: without `Room` nothing is changed, and else the slot has entered one of the runs. Assumes nothing.
use native.Mathlib.Omega.{arith}
use Rattle.pending.proofs.Pushing.{pushes_room, pushes_refused}
use Rattle.pending.proofs.push.Goals as goal

pub returns-then-not-has_room : goal.returns-then-not-has_room
returns-then-not-has_room c = let x = c.args in
    pushes_refused x.levels.now x.times.now x.slot x.p x.line.now (c.has_room.ensures.not c.if-not-has_room.true)

pub has_place-requires : goal.has_place-requires
has_place-requires c = let r = c.has_room.ensures.yes c.if-not-has_room.false in (r.right.low, omega (arith, r.right.apart))

pub put_younger-requires : goal.put_younger-requires
put_younger-requires c = let r = c.has_room.ensures.yes c.if-not-has_room.false in (r.right, c.has_place.ensures.yes c.if-has_place.true)

pub settle_and_put-requires : goal.settle_and_put-requires
settle_and_put-requires c = c.has_room.ensures.yes c.if-not-has_room.false

pub returns-then-has_place : goal.returns-then-has_place
returns-then-has_place c = pushes_room (c.has_room.ensures.yes c.if-not-has_room.false) c.put_younger.ensures

pub returns-else-has_place : goal.returns-else-has_place
returns-else-has_place c = pushes_room (c.has_room.ensures.yes c.if-not-has_room.false) c.settle_and_put.ensures
