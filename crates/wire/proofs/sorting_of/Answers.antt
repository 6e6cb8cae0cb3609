-- `wire::sorting_of` meets its contract, in each case of the tests. Assumes nothing.
use borrow.Author.Tests.{eq-eqb, ne_eqb}
use borrow.Author.Rules.{rules}
use Rattle.wire.proofs.sorting_of.Goals as goal

pub returns-then-sorting-eq1 : goal.returns-then-sorting-eq1
returns-then-sorting-eq1 c = simp (eq-eqb _ _ c.if-sorting-eq1.true) c.time_order.ensures

pub returns-then-sorting-eq2 : goal.returns-then-sorting-eq2
returns-then-sorting-eq2 c = simp (ne_eqb _ _ c.if-sorting-eq1.false, eq-eqb _ _ c.if-sorting-eq2.true) c.time_order-then-sorting-eq2.ensures

pub returns : goal.returns
returns c = simp (ne_eqb _ _ c.if-sorting-eq1.false, ne_eqb _ _ c.if-sorting-eq2.false)
