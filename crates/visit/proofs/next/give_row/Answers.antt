-- `visit::next::give_row` meets its contract: the answer has the level and the seconds as they are shown. Assumes nothing.

use Rattle.visit.proofs.next.give_row.Goals as goal

pub returns : goal.returns
returns c = rw (c.give.ensures, c.id_given.ensures, c.level_shown.ensures, c.time_given.ensures)
