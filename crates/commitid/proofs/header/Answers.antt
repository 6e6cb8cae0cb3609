-- `commitid::header` meets its contract: the digits are set down from the last to the first, then the word before them. Assumes nothing.
use borrow.Author.Rules.{rules}
use mathlib.Core.Path.{sym, ◌∙◌, ap}
use native.Mathlib.Omega.{arith}
use Prim.Native.Nat.{◌-◌}
use lib.ListN.{drop, length-set}
use Rattle.commitid.proofs.Digits.{left-first, left-next, left-last}
use Rattle.commitid.proofs.header.Goals as goal

pub loop-x-init : goal.loop-x-init
loop-x-init c = left-first c.args.b.now c.args.n c.requires (search rules)

pub overflow_sub-i : goal.overflow_sub-i
overflow_sub-i c = omega (arith, c.loop-x.invariant.low)

pub bounds-b-i : goal.bounds-b-i
bounds-b-i c = let l = c.loop-x.invariant in omega (arith, l.low, l.high, l.size)

pub loop-x-preserved : goal.loop-x-preserved
loop-x-preserved c = left-next c.loop-x.invariant c.digit.result c.digit.ensures c.loop-x-test.true

pub overflow_sub-i-2 : goal.overflow_sub-i-2
overflow_sub-i-2 c = omega (arith, c.loop-x.invariant.low)

pub bounds-b-i-2 : goal.bounds-b-i-2
bounds-b-i-2 c = let l = c.loop-x.invariant in omega (arith, l.low, l.high, l.size)

pub overflow_sub-i-3 : goal.overflow_sub-i-3
overflow_sub-i-3 c = omega (arith, c.loop-x.invariant.low)

pub shape_of-b : goal.shape_of-b
shape_of-b c = let l = c.loop-x in
    c.set_down.auto.out ∙ length-set l.b (l.i - 1) c.digit-2.result ∙ l.invariant.size ∙ sym c.requires

pub returns : goal.returns
returns c = let l = c.loop-x in
    let d = c.digit-2 in
    (ap (drop (l.i - 1 - 7)) c.set_down.ensures ∙ left-last l.invariant d.result d.ensures c.loop-x-test.false, omega (arith, l.invariant.high))
