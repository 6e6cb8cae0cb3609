-- `parent_count` meets its contract: by the reading. Assumes nothing.
use mathlib.Core.Path.{sym, ap, ◌∙◌}
use Rattle.memo.specs.AtHand.{parents_read}
use Rattle.memo.proofs.parent_count.Goals as goal

pub returns-in-Ok : goal.returns-in-Ok
returns-in-Ok c = sym (ap parents_read (sym c.readable.ensures ∙ c.in-Ok.is))

pub returns-in-Err : goal.returns-in-Err
returns-in-Err c = sym (ap parents_read (sym c.readable.ensures ∙ c.in-Err.is))
