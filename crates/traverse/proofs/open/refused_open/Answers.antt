-- `open::refused_open` meets its contract: zeros beside the refusal, and the closed record. Assumes nothing.
use mathlib.Core.Path.{refl}
use Rattle.walk.specs.Given.{open_given}
use Rattle.traverse.proofs.open.refused_open.Goals as goal

pub returns : goal.returns
unfolding open_given
returns c = record { answer = refl; shut = c.closed_record.ensures }
