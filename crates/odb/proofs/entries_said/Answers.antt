-- `odb::entries_said` meets its contract. It is the number 4 bytes before the end. Assumes nothing.
use Rattle.odb.specs.Store.{entries}
use borrow.Author.Rules.{rules}
use Rattle.odb.proofs.entries_said.Goals as goal

pub returns : goal.returns
unfolding entries
returns c = c.from_end.ensures
