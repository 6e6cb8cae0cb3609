-- `marks::has_seen` meets its contract: the test is the definition. Assumes nothing.
use mathlib.Core.Path.{refl}
use Rattle.hashtable.specs.Marks.{seen}
use Rattle.hashtable.proofs.marks.has_seen.Goals as goal

pub returns : goal.returns
unfolding seen
returns c = refl
