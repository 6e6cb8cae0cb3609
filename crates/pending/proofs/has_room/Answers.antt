-- `has_room` meets its contract: the queue stands as it should, and fewer wait than there are places. Assumes nothing.
use native.Mathlib.Omega.{arith}
use Prim.Native.Nat.{◌-◌}
use Rattle.pending.specs.Pending.{waiting}
use Rattle.hash.proofs.Decides.{decided-no, decided_lt}
use Rattle.pending.proofs.has_room.Goals as goal

pub returns-then-not-is_right : goal.returns-then-not-is_right
returns-then-not-is_right c = decided-no (λ r. c.is_right.ensures.not c.if-not-is_right.true r.right)

pub overflow_sub-young : goal.overflow_sub-young
overflow_sub-young c = let r = c.is_right.ensures.yes c.if-not-is_right.false in omega (arith, r.low)

pub overflow_sub-old : goal.overflow_sub-old
overflow_sub-old c = let r = c.is_right.ensures.yes c.if-not-is_right.false in omega (arith, r.start)

pub overflow_add-result : goal.overflow_add-result
overflow_add-result c = let r = c.is_right.ensures.yes c.if-not-is_right.false in omega (arith, r.apart, r.start, r.end)

pub overflow_sub-result : goal.overflow_sub-result
overflow_sub-result c = let r = c.is_right.ensures.yes c.if-not-is_right.false in omega (arith, r.base, r.low, r.apart, r.start)

pub returns : goal.returns
returns c = let r = c.is_right.ensures.yes c.if-not-is_right.false in
    let p = c.args.p in
    decided_lt (waiting p) (p.end - p.base) (λ k. record { right = r; free = k }) (λ w. w.free)
