-- `step::read_at` meets its contract: the slot that is read is that of place k; what is read ahead decides nothing. Assumes nothing.

use Rattle.tested.proofs.step.read_at.Goals as goal

pub returns : goal.returns
returns c = c.read_in.ensures.right c.args.k c.slot_after-slot.ensures
