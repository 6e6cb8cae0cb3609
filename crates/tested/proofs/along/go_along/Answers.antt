-- `along::go_along` meets its contract: after k turns the first k of the line are read. Slots that are left grow less. Assumes nothing.
use Rattle.std.proofs.lemmas.Result.{err_from_is_err_and}
use native.Mathlib.Omega.{arith}
use Rattle.tested.specs.Passes.{held}
use Rattle.tested.proofs.Steps.{along_first, along-next, along-short, along-over, along-last}
use Rattle.hash.specs.Bytes.{width_of}
use Rattle.tested.proofs.along.go_along.Goals as goal

pub loop-k-init : goal.loop-k-init
loop-k-init c = let x = c.args in along_first (width_of x.kind) x.cache x.graph.now x.store.now x.cap x.from (held x.names.now x.marks.now x.levels.now x.times.now x.line.now) x.n

pub returns-then-cap-k : goal.returns-then-cap-k
returns-then-cap-k c = along-over c.loop-k.invariant c.loop-k-test.true c.if-cap-k.true

pub returns-in_err-count : goal.returns-in_err-count
returns-in_err-count c =
    let p = err_from_is_err_and c.from_residual.result c.from_residual.ensures.1 in
    rw (p.1, p.2) (along-short c.loop-k.invariant c.loop-k-test.true c.read_at.ensures _ c.in_err-count.was)

pub loop-k-smaller : goal.loop-k-smaller
loop-k-smaller c = omega (arith, c.if-cap-k.false)

pub loop-k-preserved : goal.loop-k-preserved
loop-k-preserved c = along-next c.loop-k.invariant c.loop-k-test.true c.read_at.ensures (record { names = c.read_at.auto.names; marks = c.read_at.auto.marks; line = c.read_at.auto.line }) c.read_at.auto.levels c.read_at.auto.times c.in_ok-count.was

pub returns : goal.returns
returns c = along-last c.loop-k.invariant (omega (arith, c.loop-k-test.false))
