-- `reading::collect_parents` meets its contract: the parent list decides, and the level is the row's. Assumes nothing.
use mathlib.Core.Path.{sym, ◌∙◌}
use Rattle.commitgraph.specs.Graph.{parents_in}
use Rattle.reading.specs.Row.{level_of}
use Rattle.reading.proofs.Rows.{row_read, row-corrupt}
use borrow.Author.Rules.{rules}
use Rattle.reading.proofs.row.collect_parents.Goals as goal

pub returns-in-Some : goal.returns-in-Some
returns-in-Some c = let x = c.args in
    row_read (level_of _ x.graph.now x.l x.position) (parents_in _ x.graph.now x.l x.position) (sym c.in-Some.is ∙ c.parents.ensures) c.level.ensures

pub returns-in-None : goal.returns-in-None
returns-in-None c = let x = c.args in
    row-corrupt (level_of _ x.graph.now x.l x.position) (parents_in _ x.graph.now x.l x.position) (sym c.in-None.is ∙ c.parents.ensures)
