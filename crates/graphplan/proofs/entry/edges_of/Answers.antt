-- `graphplan::entry::edges_of` meets its contract: the test is the definition's own. Assumes nothing.
use borrow.Author.Tests.{lt-ltb, le-ltb}
use Rattle.graphplan.proofs.entry.edges_of.Goals as goal

pub returns-then-c-gt2 : goal.returns-then-c-gt2
returns-then-c-gt2 c = simp (lt-ltb _ _ c.if-c-gt2.true)

pub returns-else-c-gt2 : goal.returns-else-c-gt2
returns-else-c-gt2 c = simp (le-ltb _ _ c.if-c-gt2.false)
