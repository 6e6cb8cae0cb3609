-- `state::pop` meets its contract: the slot that the queue hands out, with its id and seconds. Assumes nothing.
use mathlib.Core.Path.{◌∙◌, ap}
use Rattle.object.specs.Ids.{padded}
use Rattle.state.proofs.Popping.{pops-none, pops-some}
use Rattle.state.proofs.pop.Goals as goal

pub returns : goal.returns
returns c = pops-some c.in_ok-p.ensures (c.id_of-2.ensures ∙ ap padded c.id_of.ensures) c.seconds_of.ensures

pub returns-in_err-p : goal.returns-in_err-p
returns-in_err-p c = rw c.from_residual.ensures (pops-none c.in_err-p.ensures)
