-- `fsck::number` meets its contract: a refusal has the number of the one table. Assumes nothing.
use mathlib.Core.Path.{sym, ap, ◌∙◌}
use Rattle.fsck.specs.Names.{checked_number}
use Rattle.fsck.proofs.number.Goals as goal

pub returns-in-Err : goal.returns-in-Err
returns-in-Err c = c.wide.ensures ∙ c.number.ensures ∙ sym (ap checked_number c.in-Err.is)
