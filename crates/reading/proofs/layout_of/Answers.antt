-- `reading::layout_of` meets its contract: it goes by the same cases. Assumes nothing.
use borrow.Author.Rules.{rules}
use Rattle.reading.proofs.layout_of.Goals as goal

pub returns-in-None : goal.returns-in-None
returns-in-None c = rw c.in-None.is
