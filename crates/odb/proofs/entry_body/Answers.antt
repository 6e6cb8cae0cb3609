-- `odb::entry_body` meets its contract. Start and end are those of the definition. Assumes nothing.
use mathlib.Core.Path.{◌∙◌}
use borrow.Author.Rules.{rules}
use Rattle.odb.proofs.entry_body.Goals as goal

pub returns : goal.returns
returns c = c.part_at.ensures ∙ rw (c.body_start.ensures, c.body_end.ensures)
