-- `state::see` meets its contract: the insertion under the mark SEEN, in each of its three answers. Assumes nothing.
use mathlib.Core.Logic.{⊎_elim}
use Rattle.state.proofs.Seeing.{sees-vacant, sees-found, sees-full}
use Rattle.state.proofs.see.Goals as goal

pub returns-in-Vacant : goal.returns-in-Vacant
returns-in-Vacant c = sees-vacant c.insert.ensures c.insert.auto.names c.insert.auto.marks c.in-Vacant.slot c.in-Vacant.is

pub returns-in-Found : goal.returns-in-Found
returns-in-Found c = ⊎_elim (λ e. sees-found c.insert.ensures c.insert.auto.names c.insert.auto.marks e.0 e.1) (λ e. sees-full c.insert.ensures c.insert.auto.names c.insert.auto.marks e) c.in-Found.is
