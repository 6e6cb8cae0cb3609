-- `bodyvisit::body::parents_room` meets its contract: 256 ids of either kind. Assumes nothing.
use native.Mathlib.Omega.{arith}
use Rattle.bodyvisit.proofs.body.parents_room.Goals as goal

pub returns : goal.returns
returns c = omega (arith, c.width.ensures.0)
