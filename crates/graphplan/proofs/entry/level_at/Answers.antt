-- `graphplan::entry::level_at` meets its contract: past the end the level is 0, as the definition has it. Assumes nothing.
use native.Mathlib.Omega.{arith}
use lib.ListN.{get_or-eq_default}
use Rattle.graphplan.proofs.entry.level_at.Goals as goal

pub returns-then-levels-k : goal.returns-then-levels-k
returns-then-levels-k c = let x = c.args in (omega (arith, get_or-eq_default x.levels.now 0 c.if-levels-k.true), omega arith)
