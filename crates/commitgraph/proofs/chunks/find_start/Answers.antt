-- `chunks::find_start` meets its contract: the row found is that of the first chunk with the id. Assumes nothing.
use borrow.Author.Rules.{rules}
use mathlib.Core.Path.{◌∙◌}
use Rattle.commitgraph.proofs.Table.{found, absent}
use Rattle.commitgraph.proofs.chunks.find_start.Goals as goal

pub returns-then-i-count : goal.returns-then-i-count
returns-then-i-count c =
    c.row_offset.ensures ∙ (found _ _ _ c.find_row-i.result c.requires.0 c.find_row-i.ensures c.if-i-count.true).0

pub returns : goal.returns
returns c =
    (absent _ _ _ c.find_row-i.result c.requires.0 c.find_row-i.ensures c.if-i-count.false).0
