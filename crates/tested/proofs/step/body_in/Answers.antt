-- `step::body_in` meets its contract: the body that is located is that of the slot's commit. Assumes nothing.
use Rattle.reach.proofs.Seeking.{body_at}
use Rattle.tested.proofs.step.body_in.Goals as goal

pub returns : goal.returns
returns c = body_at c.id_of-id.ensures (record { place = c.locate_near.result; locates = c.locate_near.ensures; is = c.body.ensures })
