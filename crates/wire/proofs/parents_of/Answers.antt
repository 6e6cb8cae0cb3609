-- `wire::parents_of` meets its contract, in either case of the test. Assumes nothing.
use borrow.Author.Tests.{eq-eqb, ne_eqb}
use Rattle.wire.proofs.parents_of.Goals as goal

pub returns-then-first-eq0 : goal.returns-then-first-eq0
returns-then-first-eq0 c = simp (eq-eqb _ _ c.if-first-eq0.true)

pub returns : goal.returns
returns c = simp (ne_eqb _ _ c.if-first-eq0.false)
