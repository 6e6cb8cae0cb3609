-- `visit::next::refuse` meets its contract: an id of zeros is no id. Assumes nothing.

use Rattle.visit.proofs.next.refuse.Goals as goal

pub returns : goal.returns
returns c = c.give.ensures
