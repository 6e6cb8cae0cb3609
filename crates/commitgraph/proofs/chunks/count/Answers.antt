-- `chunks::count` meets its contract: N is the last entry of the fan-out, which is found first. Assumes nothing.
use mathlib.Core.Path.{◌∙◌}
use Rattle.commitgraph.proofs.Table.{count_at}
use borrow.Author.Rules.{rules}
use Rattle.commitgraph.proofs.chunks.count.Goals as goal

pub returns : goal.returns
returns c = let g = c.args.graph.now in
    (c.last_entry.ensures.0 ∙ count_at g _ c.find_start.ensures, c.last_entry.ensures.1)
