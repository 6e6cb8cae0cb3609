-- `object::parent_line` meets its contract: it is the line with an id whose word is `parent `. Assumes nothing.
use Rattle.object.specs.Read.{parent_at}
use borrow.Author.Rules.{rules}
use Rattle.object.proofs.parent_line.Goals as goal

pub returns : goal.returns
unfolding parent_at
returns c = c.id_line.ensures
