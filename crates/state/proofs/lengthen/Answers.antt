-- `state::lengthen` meets its contract: the seconds are set down, and then the slot is pushed; where a number is too large nothing is changed.
-- Assumes nothing.
use native.Mathlib.Omega.{arith}
use Rattle.state.specs.Shapes.{waiting_in}
use Rattle.state.proofs.Queueing.{waits_pushed, waits-not}
use Rattle.state.proofs.lengthen.Goals as goal

pub returns-then-slot-gt-MOST : goal.returns-then-slot-gt-MOST
returns-then-slot-gt-MOST c = λ r. waits-not (λ sh l m b. omega (arith, c.if-slot-gt-MOST.true))

pub returns-then-admitted-gt-MOST : goal.returns-then-admitted-gt-MOST
returns-then-admitted-gt-MOST c = λ r. waits-not (λ sh l m b. omega (arith, c.if-admitted-gt-MOST.true))

pub returns : goal.returns
returns c =
    let x = c.args in
    λ r. waits_pushed {r = waiting_in r x.w} x.times.now x.slot x.s.0 c.set_time.ensures c.push-longer.ensures
