-- `object::tree_size` meets its contract: the word, two digits for each byte of an id, and the newline. Assumes nothing.
use native.Mathlib.Omega.{arith}
use borrow.Author.Rules.{rules}
use Rattle.object.proofs.tree_size.Goals as goal

pub returns : goal.returns
returns c = (omega (arith, c.width.ensures.0), omega (arith, c.width.ensures.2))
