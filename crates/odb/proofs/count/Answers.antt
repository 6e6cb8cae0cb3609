-- `odb::count` meets its contract. The test before it is the guard of the definition. Assumes nothing.
use mathlib.Core.Path.{sym, ◌∙◌}
use Rattle.odb.specs.Store.{standing_entries}
use borrow.Author.Rules.{rules}
use Rattle.odb.proofs.count.Goals as goal

pub returns-then-stands : goal.returns-then-stands
unfolding standing_entries
returns-then-stands c = c.entries_said.ensures.0 ∙ rw (sym (rw c.width.ensures.0 at c.stands.ensures) ∙ c.if-stands.true)

pub returns-else-stands : goal.returns-else-stands
unfolding standing_entries
returns-else-stands c = rw (sym (rw c.width.ensures.0 at c.stands.ensures) ∙ c.if-stands.false)
