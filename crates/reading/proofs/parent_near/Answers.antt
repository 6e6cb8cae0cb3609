-- `reading::parent_near` meets its contract: it goes by the same cases. Assumes nothing.
use borrow.Author.Rules.{rules}
use Rattle.reading.proofs.parent_near.Goals as goal

pub returns-in-Row : goal.returns-in-Row
returns-in-Row c = rw c.in-Row.is (rw c.layout_of.ensures at c.parent.ensures)
