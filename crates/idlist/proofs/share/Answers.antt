-- `idlist::share` meets its contract: the key is among the keys, so its distance is below their number, and the product of two
-- numbers of 32 bits fits. Assumes nothing.
use borrow.Author.Rules.{rules}
use Prim.Native.Nat.{◌+◌}
use Rattle.idlist.proofs.Place.{below_all, product}
use Rattle.idlist.proofs.share.Goals as goal

pub overflow_mul-result : goal.overflow_mul-result
overflow_mul-result c = record { fits = product _ _ (search rules) (search rules) }

pub returns : goal.returns
returns c = below_all _ c.wide.result (c.wide-2.result + 1) (search rules) (search rules)
