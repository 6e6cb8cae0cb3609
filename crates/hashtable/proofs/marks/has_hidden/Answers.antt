-- `marks::has_hidden` meets its contract: the test is the definition. Assumes nothing.
use mathlib.Core.Path.{refl}
use Rattle.hashtable.specs.Marks.{hidden}
use Rattle.hashtable.proofs.marks.has_hidden.Goals as goal

pub returns : goal.returns
unfolding hidden
returns c = refl
