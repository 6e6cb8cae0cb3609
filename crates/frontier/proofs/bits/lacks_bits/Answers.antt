-- `bits::lacks_bits` meets its contract: the tests are those of the definition, in its order. Assumes nothing.
-- HEAD-END
use mathlib.Core.Path.{sym, ◌∙◌}
use Rattle.frontier.specs.Bits.{lacks_bits}
use Rattle.frontier.proofs.PaintBits.{told}
use Rattle.frontier.proofs.bits.lacks_bits.Goals as goal

-- src/bits.rt:63:9
pub returns-then-is_missing : goal.returns-then-is_missing
unfolding lacks_bits
returns-then-is_missing c = rw (sym (told c.is_missing.ensures c.has_visible.ensures c.has_visible-2.ensures) ∙ c.if-is_missing.true)

-- src/bits.rt:66:9
pub returns-then-is_missing-2 : goal.returns-then-is_missing-2
unfolding lacks_bits
returns-then-is_missing-2 c = rw (sym (told c.is_missing.ensures c.has_visible.ensures c.has_visible-2.ensures) ∙ c.if-is_missing.false, sym (told c.is_missing-2.ensures c.has_hidden.ensures c.has_hidden-2.ensures) ∙ c.if-is_missing-2.true)

-- src/bits.rt:59:1
pub returns : goal.returns
unfolding lacks_bits
returns c = rw (sym (told c.is_missing.ensures c.has_visible.ensures c.has_visible-2.ensures) ∙ c.if-is_missing.false, sym (told c.is_missing-2.ensures c.has_hidden.ensures c.has_hidden-2.ensures) ∙ c.if-is_missing-2.false) (told c.is_missing-3.ensures c.has_stale.ensures c.has_stale-2.ensures)
