-- `bits::with_bits` meets its contract: bit by bit, as in the definition. Assumes nothing.
-- HEAD-END
use mathlib.Core.Path.{◌∙◌}
use mathlib.Core.Path.{ap}
use Rattle.frontier.specs.Bits.{with_bits, add_hidden, add_stale}
use Rattle.frontier.proofs.bits.with_bits.Goals as goal

-- src/bits.rt:43:1
pub returns : goal.returns
unfolding with_bits
returns c = let b = c.args.bits in c.add_stale.ensures ∙ ap (add_stale b) (c.add_hidden.ensures ∙ ap (add_hidden b) c.add_visible.ensures)
