-- `visit::next::id_given` meets its contract: the id in front of the value, with zeros after it. Assumes nothing.
use mathlib.Core.Path.{ap, ◌∙◌}
use Rattle.object.specs.Ids.{padded}
use Rattle.visit.proofs.next.id_given.Goals as goal

pub returns : goal.returns
returns c = c.id_of.ensures ∙ ap padded c.id_slice.ensures
