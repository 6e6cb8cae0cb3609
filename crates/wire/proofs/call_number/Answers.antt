-- `wire::call_number` meets its contract: a refusal has the number of the one table. Assumes nothing.
use mathlib.Core.Path.{sym, ap, ◌∙◌}
use Rattle.walk.specs.Given.{outcome_number}
use borrow.Author.Rules.{rules}
use Rattle.wire.proofs.call_number.Goals as goal

pub returns-in-Refused : goal.returns-in-Refused
returns-in-Refused c = c.wide.ensures ∙ c.number.ensures ∙ sym (ap outcome_number c.in-Refused.is)
