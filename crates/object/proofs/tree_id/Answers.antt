-- `object::tree_id` meets its contract: it is the line with an id whose word is `tree `. Assumes nothing.
use Rattle.object.specs.Read.{tree_id_at}
use borrow.Author.Rules.{rules}
use Rattle.object.proofs.tree_id.Goals as goal

pub returns : goal.returns
unfolding tree_id_at
returns c = c.id_line.ensures
