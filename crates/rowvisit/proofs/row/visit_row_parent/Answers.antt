-- `rowvisit::row::visit_row_parent` meets its contract: the id and the seconds are those at the position that the row lists. Assumes nothing.
use Rattle.rowvisit.proofs.Rows.{row-parent}
use Rattle.rowvisit.proofs.row.visit_row_parent.Goals as goal

pub returns : goal.returns
returns c = row-parent c.parent-parent.ensures c.id_at-id.ensures c.set_parent.ensures c.insert_into_seen_and_queue_cached.ensures
