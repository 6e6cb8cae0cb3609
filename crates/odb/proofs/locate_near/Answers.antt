-- `odb::locate_near` meets its contract: the number of the entry is dropped. Assumes nothing.
use borrow.Author.Rules.{rules}
use Rattle.odb.proofs.locate_near.Goals as goal

pub returns : goal.returns
returns c = c.locate_noting.ensures.0
