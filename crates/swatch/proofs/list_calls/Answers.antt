-- `list_calls` meets its contract: after each turn the lines so far stand in `out`, and the memory reads as the walk's state. Assumes nothing.
use mathlib.Core.Path.{ap}
use borrow.Author.Rules.{rules}
use native.Mathlib.Omega.{arith}
use Rattle.walk.specs.Opening.{Lengths}
use Rattle.traverse.specs.Contract.{lengths_of}
use Rattle.swatch.proofs.Listing.{loop_start, loop_next, loop_end}
use Rattle.swatch.proofs.Calls.{left_less}
use Rattle.swatch.proofs.list_calls.Goals as goal

pub loop-left-init : goal.loop-left-init
loop-left-init c = loop_start

pub loop-left-smaller : goal.loop-left-smaller
loop-left-smaller c = omega (arith, c.list_call-t.ensures.left_is, left_less c.list_call-t.ensures.given.answer.outcome c.loop-left.left c.loop-left-test.true)

pub loop-left-preserved : goal.loop-left-preserved
loop-left-preserved c = loop_next c.loop-left.invariant c.loop-left-test.true c.list_call-t.ensures

pub shape_of-names : goal.shape_of-names
unfolding lengths_of
shape_of-names c = ap (λ (l : Lengths). l.names) c.loop-left.invariant.same-lengths

pub shape_of-marks : goal.shape_of-marks
unfolding lengths_of
shape_of-marks c = ap (λ (l : Lengths). l.marks) c.loop-left.invariant.same-lengths

pub shape_of-levels : goal.shape_of-levels
unfolding lengths_of
shape_of-levels c = ap (λ (l : Lengths). l.levels) c.loop-left.invariant.same-lengths

pub shape_of-times : goal.shape_of-times
unfolding lengths_of
shape_of-times c = ap (λ (l : Lengths). l.times) c.loop-left.invariant.same-lengths

pub shape_of-line : goal.shape_of-line
unfolding lengths_of
shape_of-line c = ap (λ (l : Lengths). l.line) c.loop-left.invariant.same-lengths

pub shape_of-parents : goal.shape_of-parents
unfolding lengths_of
shape_of-parents c = ap (λ (l : Lengths). l.parents) c.loop-left.invariant.same-lengths

pub returns : goal.returns
returns c = loop_end c.loop-left.invariant (search rules)
