-- `odb::try_find` meets its contract. The part and the test are those of what `locate` answers. Assumes nothing.
use Rattle.odb.proofs.Lookup.{tries_find}
use borrow.Author.Rules.{rules}
use Rattle.odb.proofs.try_find.Goals as goal

pub returns : goal.returns
returns c = rw (c.is_body.ensures, c.body.ensures) (tries_find _ _ _ _ c.locate-at.ensures)
