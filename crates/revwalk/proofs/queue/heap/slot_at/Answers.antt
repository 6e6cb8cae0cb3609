-- Past the end a list has its default.
use mathlib.Core.Path.{sym}
use lib.ListN.{get_or-eq_default}
use borrow.Author.Rules.{rules}
use Rattle.revwalk.proofs.queue.heap.slot_at.Goals as goal

pub returns-else-i-line : goal.returns-else-i-line
returns-else-i-line c = sym (get_or-eq_default c.args.line.now 0 c.if-i-line.false)
