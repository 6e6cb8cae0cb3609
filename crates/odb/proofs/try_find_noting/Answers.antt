-- `odb::try_find_noting` meets its contract. The part and the test are those of what `locate_noting` answers. Assumes nothing.
use Rattle.odb.proofs.Lookup.{tries_find}
use borrow.Author.Rules.{rules}
use Rattle.odb.proofs.try_find_noting.Goals as goal

pub returns : goal.returns
returns c = (rw (c.is_body.ensures, c.body.ensures) (tries_find _ _ _ _ c.locate_noting-at.ensures.0), c.locate_noting-at.ensures.1)
