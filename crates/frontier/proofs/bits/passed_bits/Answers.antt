-- `bits::passed_bits` meets its contract: the test is that of the definition. Assumes nothing.
-- HEAD-END
use mathlib.Core.Path.{sym, ◌∙◌}
use Rattle.frontier.specs.Bits.{passed_bits}
use Rattle.frontier.proofs.bits.passed_bits.Goals as goal

-- src/bits.rt:79:1
pub returns-then-has_both : goal.returns-then-has_both
unfolding passed_bits
returns-then-has_both c = rw (sym c.has_both.ensures ∙ c.if-has_both.true) c.with_stale.ensures

-- src/bits.rt:79:1
pub returns-else-has_both : goal.returns-else-has_both
unfolding passed_bits
returns-else-has_both c = rw (sym c.has_both.ensures ∙ c.if-has_both.false)
