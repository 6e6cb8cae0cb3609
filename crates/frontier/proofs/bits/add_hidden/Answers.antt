-- `bits::add_hidden` meets its contract: the test is that of the definition. Assumes nothing.
-- HEAD-END
use mathlib.Core.Path.{sym, ◌∙◌}
use Rattle.frontier.specs.Bits.{add_hidden}
use Rattle.frontier.proofs.bits.add_hidden.Goals as goal

-- src/bits.rt:30:1
pub returns-then-has_hidden : goal.returns-then-has_hidden
unfolding add_hidden
returns-then-has_hidden c = rw (sym c.has_hidden.ensures ∙ c.if-has_hidden.true) c.with_hidden.ensures

-- src/bits.rt:30:1
pub returns-else-has_hidden : goal.returns-else-has_hidden
unfolding add_hidden
returns-else-has_hidden c = rw (sym c.has_hidden.ensures ∙ c.if-has_hidden.false)
