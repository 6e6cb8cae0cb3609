-- `visit::next::end_walk` meets its contract: an id of zeros is no id, and what waits in the record is its own. Assumes nothing.
use Rattle.std.specs.Prelude.{None}
use mathlib.Core.Path.{◌∙◌, ap}
use Rattle.walk.specs.declared.Outcome.TheVariants.{End}
use Rattle.walk.specs.Given.{no_id}
use Rattle.visit.specs.Taking.{gave}
use Rattle.visit.proofs.next.end_walk.Goals as goal

pub returns : goal.returns
returns c = c.give.ensures ∙ ap (gave End no_id 0 None None None) c.waiting_of.ensures
