-- `slots::slot_added` meets its contract: the slot number is below the bound, so it is kept. Assumes nothing.
-- HEAD-END
use mathlib.Core.Path.{ap}
use Rattle.frontier.specs.declared.slots.Added.TheVariants.{New, Known}
use Rattle.frontier.proofs.slots.slot_added.Goals as goal

-- src/slots.rt:28:1
pub returns-then-known : goal.returns-then-known
returns-then-known c = λ h. rw c.if-known.true (ap Known (c.narrow-k.ensures h))

-- src/slots.rt:28:1
pub returns-else-known : goal.returns-else-known
returns-else-known c = λ h. rw c.if-known.false (ap New (c.narrow-k.ensures h))
