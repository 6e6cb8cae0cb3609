-- `bits::add_visible` meets its contract: the test is that of the definition. Assumes nothing.
-- HEAD-END
use mathlib.Core.Path.{sym, ◌∙◌}
use Rattle.frontier.specs.Bits.{add_visible}
use Rattle.frontier.proofs.bits.add_visible.Goals as goal

-- src/bits.rt:24:1
pub returns-then-has_visible : goal.returns-then-has_visible
unfolding add_visible
returns-then-has_visible c = rw (sym c.has_visible.ensures ∙ c.if-has_visible.true) c.with_visible.ensures

-- src/bits.rt:24:1
pub returns-else-has_visible : goal.returns-else-has_visible
unfolding add_visible
returns-else-has_visible c = rw (sym c.has_visible.ensures ∙ c.if-has_visible.false)
