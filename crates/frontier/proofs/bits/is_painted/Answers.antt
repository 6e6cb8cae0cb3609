-- `bits::is_painted` meets its contract: the tests are those of the definition, in its order. Assumes nothing.
-- HEAD-END
use mathlib.Core.Path.{sym, ◌∙◌}
use Rattle.frontier.specs.Bits.{is_painted}
use Rattle.frontier.proofs.bits.is_painted.Goals as goal

-- src/bits.rt:16:9
pub returns-then-has_visible : goal.returns-then-has_visible
unfolding is_painted
returns-then-has_visible c = rw (sym c.has_visible.ensures ∙ c.if-has_visible.true)

-- src/bits.rt:19:9
pub returns-then-has_hidden : goal.returns-then-has_hidden
unfolding is_painted
returns-then-has_hidden c = rw (sym c.has_visible.ensures ∙ c.if-has_visible.false, sym c.has_hidden.ensures ∙ c.if-has_hidden.true)

-- src/bits.rt:12:1
pub returns : goal.returns
unfolding is_painted
returns c = rw (sym c.has_visible.ensures ∙ c.if-has_visible.false, sym c.has_hidden.ensures ∙ c.if-has_hidden.false) c.has_stale.ensures
