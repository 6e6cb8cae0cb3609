-- `bits::add_stale` meets its contract: the test is that of the definition. Assumes nothing.
-- HEAD-END
use mathlib.Core.Path.{sym, ◌∙◌}
use Rattle.frontier.specs.Bits.{add_stale}
use Rattle.frontier.proofs.bits.add_stale.Goals as goal

-- src/bits.rt:36:1
pub returns-then-has_stale : goal.returns-then-has_stale
unfolding add_stale
returns-then-has_stale c = rw (sym c.has_stale.ensures ∙ c.if-has_stale.true) c.with_stale.ensures

-- src/bits.rt:36:1
pub returns-else-has_stale : goal.returns-else-has_stale
unfolding add_stale
returns-else-has_stale c = rw (sym c.has_stale.ensures ∙ c.if-has_stale.false)
