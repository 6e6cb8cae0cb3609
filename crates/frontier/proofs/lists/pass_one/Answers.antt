-- `lists::pass_one` meets its contract: the test is whether a passed mark is lacking, by the slot that gains it then. Assumes nothing.
use mathlib.Core.Path.{refl}
use Rattle.frontier.proofs.Steps.{passes-mark, passes_none}
use Rattle.frontier.proofs.lists.pass_one.Goals as goal

pub returns-then-is_lacking : goal.returns-then-is_lacking
returns-then-is_lacking c = passes-mark (c.is_lacking.ensures.right _ _ _ _ c.find_slot-slot.ensures) refl refl c.if-is_lacking.true (c.queue_added.ensures.right _ _ _ _ _ _ (c.add_mark-added.ensures.right _ c.find_slot-slot.ensures))

pub returns-else-is_lacking : goal.returns-else-is_lacking
returns-else-is_lacking c = passes_none (c.is_lacking.ensures.right _ _ _ _ c.find_slot-slot.ensures) refl refl c.if-is_lacking.false
