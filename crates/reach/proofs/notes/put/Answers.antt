-- `notes::put` meets its contract: where there is room the slot is stored at the end. Assumes nothing.
use native.Mathlib.Omega.{arith}
use Rattle.reach.proofs.notes.put.Goals as goal

pub returns-then-line-from : goal.returns-then-line-from
returns-then-line-from c = record { right = λ h. absurd (omega arith) }

pub returns-then-line-from-2 : goal.returns-then-line-from-2
returns-then-line-from-2 c = record { right = λ h. absurd (omega arith) }
