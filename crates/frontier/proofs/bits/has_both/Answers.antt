-- `bits::has_both` meets its contract: the tests are those of the definition. Assumes nothing.
-- HEAD-END
use mathlib.Core.Path.{sym, ◌∙◌}
use Rattle.frontier.proofs.bits.has_both.Goals as goal

-- src/bits.rt:72:1
pub returns-then-has_visible : goal.returns-then-has_visible
returns-then-has_visible c = rw (sym c.has_visible.ensures ∙ c.if-has_visible.true) c.has_hidden.ensures

-- src/bits.rt:72:1
pub returns-else-has_visible : goal.returns-else-has_visible
returns-else-has_visible c = rw (sym c.has_visible.ensures ∙ c.if-has_visible.false)
