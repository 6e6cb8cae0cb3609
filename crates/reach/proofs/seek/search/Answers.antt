-- `seek::search` meets its contract: after k turns the first k of the line are read, and what they lead to is in the line. Slots that are left grow less. Assumes nothing.
use Rattle.std.proofs.lemmas.Result.{err_from_is_err_and}
use native.Mathlib.Omega.{arith}
use Rattle.reach.proofs.Seeking.{loop_first, loop_next, loop-short, loop-over, loop-last}
use Rattle.hash.specs.Bytes.{width_of}
use Rattle.reach.proofs.seek.search.Goals as goal

pub loop-k-init : goal.loop-k-init
loop-k-init c = let x = c.args in loop_first (width_of x.kind) x.second x.cap x.from x.store.now _ x.n

pub returns-then-cap-k : goal.returns-then-cap-k
returns-then-cap-k c = loop-over c.loop-k.invariant c.loop-k-test.true c.if-cap-k.true

pub returns-in_err-count : goal.returns-in_err-count
returns-in_err-count c =
    let p = err_from_is_err_and c.from_residual.result c.from_residual.ensures.1 in
    rw (p.1, p.2) (loop-short c.loop-k.invariant c.loop-k-test.true c.read_at.ensures c.in_err-count.was)

pub loop-k-smaller : goal.loop-k-smaller
loop-k-smaller c = omega (arith, c.if-cap-k.false)

pub loop-k-preserved : goal.loop-k-preserved
loop-k-preserved c = loop_next c.loop-k.invariant c.loop-k-test.true (record { names = c.read_at.auto.names; marks = c.read_at.auto.marks; line = c.read_at.auto.line }) c.read_at.ensures c.in_ok-count.was

pub returns : goal.returns
returns c = loop-last c.loop-k.invariant (omega (arith, c.loop-k-test.false))
