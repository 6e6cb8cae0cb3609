-- `marking::mark_one` meets its contract: the slot is the one that the search answered. Assumes nothing.
use Rattle.frontier.proofs.marking.mark_one.Goals as goal

pub returns : goal.returns
returns c = c.queue_added.ensures.right _ _ _ _ _ _ (c.add_mark-added.ensures.right _ c.find_slot-slot.ensures)
