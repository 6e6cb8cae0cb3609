-- `reportwire::number` meets its contract: by its two cases; a refusal has the table's number. Assumes nothing.
use mathlib.Core.Path.{sym, ◌∙◌, ap}
use Rattle.reportwire.specs.Feed.{reported_number}
use borrow.Author.Rules.{rules}
use Rattle.reportwire.proofs.number.Goals as goal

pub returns-in-Ok : goal.returns-in-Ok
returns-in-Ok c = sym (ap reported_number c.in-Ok.is)

pub returns-in-Err : goal.returns-in-Err
returns-in-Err c = c.wide.ensures ∙ c.number.ensures ∙ sym (ap reported_number c.in-Err.is)
