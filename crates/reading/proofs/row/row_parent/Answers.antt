-- `reading::row_parent` meets its contract: the id at the parent's position is the parent's. Assumes nothing.
use Rattle.reading.proofs.Rows.{parent-by-place}
use borrow.Author.Rules.{rules}
use Rattle.reading.proofs.row.row_parent.Goals as goal

pub returns : goal.returns
returns c = let x = c.args in parent-by-place _ x.graph.now x.l x.position x.k c.parent-parent.ensures c.id_at.ensures
