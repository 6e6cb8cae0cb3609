-- `open::accepted_open` meets its contract: the record has the numbers of the state that its memory reads as. Assumes nothing.
use mathlib.Core.Path.{refl}
use Rattle.traverse.proofs.OpenSaid.{accepts}
use Rattle.traverse.proofs.open.accepted_open.Goals as goal

pub returns : goal.returns
returns c = accepts _ _ refl refl
