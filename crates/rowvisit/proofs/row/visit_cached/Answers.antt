-- `rowvisit::row::visit_cached` meets its contract: what the list is found to be decides, and where it is corrupt no call was made that changes anything.
-- Assumes nothing.
use mathlib.Core.Path.{◌∙◌}
use Rattle.rowvisit.proofs.PlainLists.{numbers-read, third_read}
use Rattle.rowvisit.proofs.Rows.{judged-good, judged-corrupt}
use Rattle.rowvisit.proofs.row.visit_cached.Goals as goal

pub collect_parents-requires : goal.collect_parents-requires
collect_parents-requires c = (numbers-read c.width-width.ensures.0 c.row-row.ensures c.be32-first.ensures c.be32-second.ensures, third_read _ _ _ _ c.width-width.ensures.0 c.row-row.ensures c.be32-third.ensures)

pub visit_row-requires : goal.visit_row-requires
visit_row-requires c = numbers-read c.width-width.ensures.0 c.row-row.ensures c.be32-first.ensures c.be32-second.ensures

pub shape_of-levels : goal.shape_of-levels
shape_of-levels c = c.visit_row.auto.levels ∙ c.look_ahead.auto.levels

pub returns-in-Some : goal.returns-in-Some
returns-in-Some c = judged-good c.collect_parents.ensures c.in-Some.is c.followed_count-n.ensures c.visit_row.ensures

-- nothing is set down or admitted before the list is found good: where it is corrupt, every lent byte is as it was
pub returns-in-None : goal.returns-in-None
returns-in-None c = judged-corrupt c.collect_parents.ensures c.in-None.is
