-- `slots::raise` meets its contract: the mark is read before it is set. Assumes nothing.
-- HEAD-END
use mathlib.Core.Path.{◌∙◌, ap}
use Prim.Native.Nat.{ℕ}
use lib.ListN.{set}
use Rattle.frontier.specs.Bits.{is_painted, with_bits}
use Rattle.frontier.proofs.slots.raise.Goals as goal

-- src/slots.rt:36:1
pub returns : goal.returns
returns c = let x = c.args in
    (c.is_painted.ensures ∙ ap is_painted c.mark_of-m.ensures, c.set_mark.ensures ∙ ap (λ (v : ℕ). set x.marks.now x.slot v) (c.with_bits.ensures ∙ ap (with_bits x.bits) c.mark_of-m.ensures))
