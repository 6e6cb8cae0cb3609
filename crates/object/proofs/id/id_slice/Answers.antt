-- `object::id_slice` meets its contract: the id at the first byte. Assumes nothing.
use borrow.Author.Rules.{rules}
use Rattle.hash.specs.Bytes.{at}
use Rattle.object.specs.Ids.{id_in}
use Rattle.object.proofs.id.id_slice.Goals as goal

pub returns : goal.returns
unfolding id_in at
returns c = c.id_at.ensures
