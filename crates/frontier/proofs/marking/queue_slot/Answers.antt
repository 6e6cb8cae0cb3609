-- `marking::queue_slot` meets its contract: a queue with room takes the slot. Assumes nothing.
use Rattle.frontier.proofs.MarkAnswers.{queue-told}
use Rattle.frontier.proofs.marking.queue_slot.Goals as goal

pub returns : goal.returns
returns c = queue-told c.push.result c.push.ensures c.ok_or.ensures.value
