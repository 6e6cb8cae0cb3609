-- `levels::larger_of` meets its contract: the test is the definition's own. Assumes nothing.
use borrow.Author.Tests.{lt-ltb, le-ltb}
use Rattle.levels.proofs.larger_of.Goals as goal

pub returns-then-a-b : goal.returns-then-a-b
returns-then-a-b c = simp (lt-ltb _ _ c.if-a-b.true)

pub returns-else-a-b : goal.returns-else-a-b
returns-else-a-b c = simp (le-ltb _ _ c.if-a-b.false)
