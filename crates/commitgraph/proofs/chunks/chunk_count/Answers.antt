-- `chunks::chunk_count` meets its contract: it is byte 6. Assumes nothing.
use mathlib.Core.Path.{◌∙◌}
use Rattle.commitgraph.specs.Graph.{chunk_count}
use borrow.Author.Rules.{rules}
use Rattle.commitgraph.proofs.chunks.chunk_count.Goals as goal

pub returns : goal.returns
unfolding chunk_count
returns c = (c.wide_byte.ensures.0 ∙ c.byte_at.ensures, c.wide_byte.ensures.1)
