-- `wire::open_number` meets its contract: a refusal has the number of the one table. Assumes nothing.
use mathlib.Core.Path.{sym, ap, ◌∙◌}
use Rattle.walk.specs.Given.{open_number}
use borrow.Author.Rules.{rules}
use Rattle.wire.proofs.open_number.Goals as goal

pub returns-in-Err : goal.returns-in-Err
returns-in-Err c = c.wide.ensures ∙ c.number.ensures ∙ sym (ap open_number c.in-Err.is)
