-- The place is that of the ring; past the end a list has its default.
use mathlib.Core.Path.{sym, ap, ◌∙◌}
use lib.ListN.{get_or-eq_default}
use Rattle.revwalk.specs.Order.{at}
use borrow.Author.Rules.{rules}
use Rattle.revwalk.proofs.queue.ring.slot_at.Goals as goal

pub returns-then-p-line : goal.returns-then-p-line
returns-then-p-line c = λ h k. ap (at c.args.line.now) c.place-p.ensures.0

pub returns-else-p-line : goal.returns-else-p-line
returns-else-p-line c = λ h k. sym (get_or-eq_default c.args.line.now 0 c.if-p-line.false) ∙ ap (at c.args.line.now) c.place-p.ensures.0
