-- `marks::has_stale` meets its contract: the test is the definition. Assumes nothing.
use mathlib.Core.Path.{refl}
use Rattle.hashtable.specs.Marks.{stale}
use Rattle.hashtable.proofs.marks.has_stale.Goals as goal

pub returns : goal.returns
unfolding stale
returns c = refl
