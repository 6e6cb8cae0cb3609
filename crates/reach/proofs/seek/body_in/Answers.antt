-- `seek::body_in` meets its contract: the id in the slot is looked up. Assumes nothing.
use Rattle.reach.proofs.Seeking.{body_at}
use Rattle.reach.proofs.seek.body_in.Goals as goal

pub returns : goal.returns
returns c = body_at c.id_of.ensures c.stored_body.ensures
