-- `turns::turns` meets its contract: the memory reads as the painting after the turns that were taken, and once none is due more change nothing. Assumes nothing.
use Rattle.std.proofs.lemmas.Result.{err_from_is_err_and}
use mathlib.Core.Path.{sym, ◌∙◌}
use native.Mathlib.Omega.{arith}
use Rattle.frontier.proofs.TurnLaws.{taking_first, taking_next, taking_stop, taking_last}
use Rattle.hash.specs.Bytes.{width_of}
use Rattle.frontier.proofs.turns.turns.Goals as goal

pub loop-i-init : goal.loop-i-init
loop-i-init c = let x = c.args in taking_first (width_of x.kind) x.cache x.graph.now x.store.now x.cap _ _

pub returns-then-not-any_lacking : goal.returns-then-not-any_lacking
returns-then-not-any_lacking c = taking_last c.loop-i.invariant (omega arith) (λ z. sym c.any_lacking.ensures ∙ c.if-not-any_lacking.true)

pub returns-in_err-q : goal.returns-in_err-q
returns-in_err-q c = let p = err_from_is_err_and c.from_residual.result c.from_residual.ensures.1 in
    rw (p.1, p.2) (taking_stop c.loop-i.invariant c.loop-i-test.true (sym c.any_lacking.ensures ∙ c.if-not-any_lacking.false) c.in_err-q.ensures)

pub loop-i-preserved : goal.loop-i-preserved
loop-i-preserved c = taking_next c.loop-i.invariant (sym c.any_lacking.ensures ∙ c.if-not-any_lacking.false) (record { names = c.turn.auto.names; marks = c.turn.auto.marks; levels = c.turn.auto.levels; times = c.turn.auto.times; line = c.turn.auto.line }) c.in_ok-q.ensures

pub shape_of-names : goal.shape_of-names
shape_of-names c = c.loop-i.invariant.long.names

pub shape_of-marks : goal.shape_of-marks
shape_of-marks c = c.loop-i.invariant.long.marks

pub shape_of-levels : goal.shape_of-levels
shape_of-levels c = c.loop-i.invariant.long.levels

pub shape_of-times : goal.shape_of-times
shape_of-times c = c.loop-i.invariant.long.times

pub shape_of-line : goal.shape_of-line
shape_of-line c = c.loop-i.invariant.long.line

pub returns : goal.returns
returns c = taking_last c.loop-i.invariant (omega arith) (λ z. absurd (omega arith))
