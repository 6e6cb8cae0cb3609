-- `open::is_by_time` meets its contract: a time order that First does not override. Assumes nothing.
use mathlib.Core.Path.{sym, ◌∙◌}
use Rattle.walk.specs.Settings.{timed, only_first, by_time}
use Rattle.traverse.proofs.OpenSaid.{and_true, and_false}
use Rattle.traverse.proofs.open.is_by_time.Goals as goal

pub returns-in-All : goal.returns-in-All
unfolding by_time only_first
returns-in-All c = rw c.in-All.is (c.is_timed.ensures ∙ and_true _)

pub returns-in-First : goal.returns-in-First
unfolding by_time only_first
returns-in-First c = rw c.in-First.is (sym (and_false (timed c.args.settings.sorting)))
