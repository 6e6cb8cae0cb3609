-- `wire::time_order` meets its contract, in either case of the test. Assumes nothing.
use borrow.Author.Tests.{eq-eqb, ne_eqb}
use Rattle.wire.proofs.time_order.Goals as goal

pub returns-then-limited-eq0 : goal.returns-then-limited-eq0
returns-then-limited-eq0 c = simp (eq-eqb _ _ c.if-limited-eq0.true)

pub returns : goal.returns
returns c = simp (ne_eqb _ _ c.if-limited-eq0.false)
