-- `lists::id_in` meets its contract: the id in the slot, by value. Assumes nothing.
use mathlib.Core.Path.{◌∙◌, ap}
use Rattle.object.specs.Ids.{padded}
use Rattle.frontier.proofs.lists.id_in.Goals as goal

pub returns : goal.returns
returns c = c.id_of-2.ensures ∙ ap padded c.id_of.ensures
