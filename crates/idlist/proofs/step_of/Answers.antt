-- `idlist::step_of` meets its contract: the product of two numbers of 32 bits fits. Assumes nothing.
use Rattle.idlist.proofs.Place.{product}
use borrow.Author.Rules.{rules}
use Rattle.idlist.proofs.step_of.Goals as goal

pub overflow_mul-result : goal.overflow_mul-result
overflow_mul-result c = record { fits = product _ _ (search rules) (search rules) }

pub returns : goal.returns
returns c = rw (c.wide_long.ensures, c.wide.ensures.0)
