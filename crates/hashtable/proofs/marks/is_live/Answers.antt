-- `marks::is_live` meets its contract: the tests are those of the definition, in its order. Assumes nothing.
use mathlib.Core.Path.{sym, ◌∙◌}
use borrow.Author.Tests.{not-true, not-false}
use Rattle.hashtable.specs.Marks.{frontier, live}
use borrow.Author.Rules.{rules}
use Rattle.hashtable.proofs.marks.is_live.Goals as goal

pub returns-then-not-painted : goal.returns-then-not-painted
unfolding live
returns-then-not-painted c = rw c.if-not-painted.true

pub returns-then-has_seen : goal.returns-then-has_seen
unfolding live
returns-then-has_seen c = rw (c.if-not-painted.false, sym c.has_seen.ensures ∙ c.if-has_seen.true)

pub returns-then-has_visible : goal.returns-then-has_visible
unfolding live frontier
returns-then-has_visible c =
    rw (c.if-not-painted.false, sym c.has_seen.ensures ∙ c.if-has_seen.false, sym c.has_visible.ensures ∙ c.if-has_visible.true) c.has_hidden.ensures

pub returns : goal.returns
unfolding live frontier
returns c =
    rw (c.if-not-painted.false, sym c.has_seen.ensures ∙ c.if-has_seen.false, sym c.has_visible.ensures ∙ c.if-has_visible.false)
