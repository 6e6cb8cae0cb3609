-- `linenhatch::linenhatch_places` meets its contract: the places are those of the kind that the width names. Assumes nothing.
use mathlib.Core.Path.{sym, ◌∙◌}
use Rattle.linenhatch.proofs.linenhatch_places.Goals as goal

pub returns : goal.returns
returns c = λ excluded s e. c.capacity.ensures excluded s (e ∙ sym c.kind_of.ensures)
