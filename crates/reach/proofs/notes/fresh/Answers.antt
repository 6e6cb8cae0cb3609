-- `notes::fresh` meets its contract: a slot number that fits is kept as it is. Assumes nothing.
use native.Mathlib.Omega.{arith}
use Rattle.reach.proofs.notes.fresh.Goals as goal

pub returns : goal.returns
returns c = λ h. absurd (omega arith)
