-- `chunks::find_chunk` meets its contract: the row found is that of the first chunk with the id. Assumes nothing.
use borrow.Author.Rules.{rules}
use mathlib.Core.Path.{◌∙◌}
use Rattle.commitgraph.proofs.Table.{found, absent}
use Rattle.commitgraph.proofs.chunks.find_chunk.Goals as goal

pub returns-then-i-count : goal.returns-then-i-count
returns-then-i-count c =
    let p = found _ _ _ c.find_row-i.result c.chunk_count-count.ensures.0 c.find_row-i.ensures c.if-i-count.true in
    (c.row_offset.ensures ∙ p.0, c.row_size.ensures ∙ p.1)

pub returns : goal.returns
returns c =
    absent _ _ _ c.find_row-i.result c.chunk_count-count.ensures.0 c.find_row-i.ensures c.if-i-count.false
