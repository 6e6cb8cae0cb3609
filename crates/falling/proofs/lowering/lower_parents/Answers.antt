-- `lowering::lower_parents` meets its contract: one way or the other. Assumes nothing.
use mathlib.Core.Logic.{inl, inr}
use Rattle.falling.proofs.lowering.lower_parents.Goals as goal

pub returns-then-all_new : goal.returns-then-all_new
returns-then-all_new c = record { either = inl (c.all_new.ensures c.if-all_new.true, c.lower_new.ensures) }

pub returns : goal.returns
returns c = record { either = inr c.lower_from.ensures }
