-- `slot_at` meets its contract: past the end the slot is 0. Assumes nothing.
use mathlib.Core.Path.{sym}
use native.Mathlib.Omega.{arith}
use lib.ListN.{get_or-eq_default}
use Rattle.stain.proofs.slot_at.Goals as goal

pub returns-then-line-k : goal.returns-then-line-k
returns-then-line-k c = sym (get_or-eq_default c.args.line.now 0 (omega arith))
