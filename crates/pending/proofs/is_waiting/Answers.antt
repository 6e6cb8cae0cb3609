-- `is_waiting` meets its contract: the queue stands as it should, and one of the two runs has a slot. Assumes nothing.
use native.Mathlib.Omega.{arith}
use Rattle.hash.proofs.Decides.{decided-no, decided-yes, decided_lt}
use Rattle.pending.proofs.is_waiting.Goals as goal

pub returns-then-not-is_right : goal.returns-then-not-is_right
returns-then-not-is_right c = decided-no (λ w. c.is_right.ensures.not c.if-not-is_right.true w.right)

pub returns-then-p : goal.returns-then-p
returns-then-p c = decided-yes (record { right = c.is_right.ensures.yes c.if-not-is_right.false; some = omega (arith, c.if-p.true) })

pub returns : goal.returns
returns c = let r = c.is_right.ensures.yes c.if-not-is_right.false in
    let p = c.args.p in
    decided_lt p.start p.end (λ k. record { right = r; some = omega arith }) (λ w. omega (arith, w.some))
