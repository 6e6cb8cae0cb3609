-- `refill::in_frontier` meets its contract: the frontier has both marks. Assumes nothing.
use Rattle.refill.proofs.Refilling.{frontier-yes, frontier-no}
use Rattle.refill.proofs.in_frontier.Goals as goal

pub returns-then-has_visible : goal.returns-then-has_visible
returns-then-has_visible c = frontier-yes c.mark_of-m.ensures c.has_visible.ensures c.if-has_visible.true c.has_hidden.ensures

pub returns-else-has_visible : goal.returns-else-has_visible
returns-else-has_visible c = frontier-no c.mark_of-m.ensures c.has_visible.ensures c.if-has_visible.false
