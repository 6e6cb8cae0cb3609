-- `idlist::find_from` meets its contract. The loop's invariant: of rising ids, whatever is the id that is looked for lies in what
-- is left of the range, and the number to look at is one of it; so one that is found is a number of the range, and where nothing is left
-- there was none. What is left shrinks with each turn, wherever the search starts and the guesses fall. Assumes nothing.
use mathlib.Core.Path.{refl}
use native.Mathlib.Omega.{arith}
use Rattle.idlist.proofs.Search.{whole, ends, up, down, found, missed, torn, told}
use Rattle.idlist.proofs.find_from.Goals as goal

pub returns-then-not-stands : goal.returns-then-not-stands
returns-then-not-stands c = torn (c.stands.ensures.not c.if-not-stands.true)

pub loop-left-init : goal.loop-left-init
loop-left-init c = let q = c.all_from-left.ensures in
    (rw (q.0, q.1) (whole (c.stands.ensures.yes c.if-not-stands.false)), q.2)

pub overflow_mul-place : goal.overflow_mul-place
overflow_mul-place c = omega (arith, ends c.loop-left.left.mid c.loop-left.invariant.0 (c.loop-left.invariant.1 c.loop-left-test.true).1)

pub overflow_add-place : goal.overflow_add-place
overflow_add-place c = omega (arith, ends c.loop-left.left.mid c.loop-left.invariant.0 (c.loop-left.invariant.1 c.loop-left-test.true).1)

pub order_at-requires : goal.order_at-requires
order_at-requires c =
    (ends c.loop-left.left.mid c.loop-left.invariant.0 (c.loop-left.invariant.1 c.loop-left-test.true).1, c.head-here.ensures, c.head-key.ensures)

pub overflow_sub-key : goal.overflow_sub-key
overflow_sub-key c = omega (arith, c.order_at.ensures.1 c.in-Less.is)

pub above-left-requires : goal.above-left-requires
above-left-requires c = (c.loop-left.invariant.1 c.loop-left-test.true).1

pub loop-left-smaller-in-Less : goal.loop-left-smaller-in-Less
loop-left-smaller-in-Less c =
    omega (arith, c.loop-left.invariant.1 c.loop-left-test.true, c.above-left.ensures.0, c.above-left.ensures.1)

pub loop-left-preserved-in-Less : goal.loop-left-preserved-in-Less
loop-left-preserved-in-Less c =
    let a = c.above-left.ensures in
    (up c.loop-left.left.mid c.loop-left.invariant.0 (c.loop-left.invariant.1 c.loop-left-test.true) (told _ _ _ refl c.order_at.ensures.0 c.in-Less.is) (a.0, a.1), a.2)

pub returns-in-Equal : goal.returns-in-Equal
returns-in-Equal c =
    found c.loop-left.left.mid c.loop-left.invariant.0 (c.loop-left.invariant.1 c.loop-left-test.true) (told _ _ _ refl c.order_at.ensures.0 c.in-Equal.is)

pub overflow_sub-here : goal.overflow_sub-here
overflow_sub-here c = omega (arith, c.order_at.ensures.2 c.in-Greater.is)

pub below-left-requires : goal.below-left-requires
below-left-requires c = (c.loop-left.invariant.1 c.loop-left-test.true).0

pub loop-left-smaller : goal.loop-left-smaller
loop-left-smaller c =
    omega (arith, c.loop-left.invariant.1 c.loop-left-test.true, c.below-left.ensures.0, c.below-left.ensures.1)

pub loop-left-preserved : goal.loop-left-preserved
loop-left-preserved c =
    let a = c.below-left.ensures in
    (down c.loop-left.left.mid c.loop-left.invariant.0 (c.loop-left.invariant.1 c.loop-left-test.true) (told _ _ _ refl c.order_at.ensures.0 c.in-Greater.is) (a.0, a.1), a.2)

pub returns : goal.returns
returns c = missed c.loop-left.invariant.0 c.loop-left-test.false
