-- `stain_slot` meets its contract: a slot past the end is not set. Assumes nothing.
use mathlib.Core.Path.{sym}
use native.Mathlib.Omega.{arith}
use lib.Seq.{set_out}
use borrow.Author.Tests.{eq-eqb, ne_eqb}
use Rattle.stain.specs.Stain.{stained_at}
use Rattle.stain.proofs.stain_slot.Goals as goal

pub returns-then-slot-own : goal.returns-then-slot-own
unfolding stained_at
returns-then-slot-own c = rw (eq-eqb _ _ c.if-slot-own.true)

pub returns-then-slot-levels : goal.returns-then-slot-levels
unfolding stained_at
returns-then-slot-levels c = rw (ne_eqb _ _ c.if-slot-own.false)

pub returns-else-slot-levels : goal.returns-else-slot-levels
unfolding stained_at
returns-else-slot-levels c = rw (ne_eqb _ _ c.if-slot-own.false) (sym (set_out c.args.levels.now c.args.slot 1 (omega arith)))
