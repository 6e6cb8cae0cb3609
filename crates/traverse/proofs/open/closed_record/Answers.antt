-- `open::closed_record` meets its contract: it is that record. Assumes nothing.
use mathlib.Core.Path.{refl}
use Rattle.state.specs.Reads.{closed_record}
use Rattle.traverse.proofs.open.closed_record.Goals as goal

pub returns : goal.returns
unfolding closed_record
returns c = refl
