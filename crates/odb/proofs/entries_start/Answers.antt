-- `odb::entries_start` meets its contract. It is the number 8 bytes before the end. Assumes nothing.
use Rattle.odb.specs.Store.{start}
use borrow.Author.Rules.{rules}
use Rattle.odb.proofs.entries_start.Goals as goal

pub returns : goal.returns
unfolding start
returns c = c.from_end.ensures
