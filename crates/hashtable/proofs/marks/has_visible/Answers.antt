-- `marks::has_visible` meets its contract: the test is the definition. Assumes nothing.
use mathlib.Core.Path.{refl}
use Rattle.hashtable.specs.Marks.{visible}
use Rattle.hashtable.proofs.marks.has_visible.Goals as goal

pub returns : goal.returns
unfolding visible
returns c = refl
