-- `along::begin` meets its contract: two lists noted one after the other are one list noted. Assumes nothing.
use Rattle.reach.proofs.Noting.{notes-then}
use Rattle.tested.proofs.along.begin.Goals as goal

pub returns : goal.returns
returns c = notes-then c.note_list-from_tips.ensures c.note_list.ensures
