-- `graphwire::number` meets its contract: by its two cases; a refusal has the table's number. Assumes nothing.
use mathlib.Core.Path.{sym, ◌∙◌, ap}
use Rattle.graphwire.specs.Wire.{written_number}
use Rattle.graphwire.proofs.number.Goals as goal

pub returns-in-Err : goal.returns-in-Err
returns-in-Err c = c.wide.ensures ∙ c.number.ensures ∙ sym (ap written_number c.in-Err.is)
