-- `chunks::row_offset` meets its contract: the number is read where row i has its offset. Assumes nothing.
use mathlib.Core.Path.{◌∙◌}
use Rattle.commitgraph.specs.Graph.{chunk_offset}
use borrow.Author.Rules.{rules}
use Rattle.commitgraph.proofs.chunks.row_offset.Goals as goal

pub returns : goal.returns
unfolding chunk_offset
returns c = c.wide_offset.ensures ∙ c.be64.ensures
