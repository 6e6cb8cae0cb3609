-- `chunks::row_id` meets its contract: the number is read where row i has its id. Assumes nothing.
use Rattle.commitgraph.specs.Graph.{chunk_id}
use borrow.Author.Rules.{rules}
use Rattle.commitgraph.proofs.chunks.row_id.Goals as goal

pub returns : goal.returns
unfolding chunk_id
returns c = c.be32.ensures
