-- `visit::next::give` meets its contract: the record after is the one with these that wait, and its numbers are the answer's. Assumes nothing.

use Rattle.visit.proofs.next.give.Goals as goal

pub returns : goal.returns
returns c = rw c.with_waiting.ensures
