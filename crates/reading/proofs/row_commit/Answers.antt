-- `reading::row_commit` meets its contract: the parent list decides, and the pair is the row's. Assumes nothing.
use mathlib.Core.Path.{sym, ◌∙◌}
use Rattle.commitgraph.specs.Graph.{parents_in}
use Rattle.reading.specs.Whole.{pair_in}
use Rattle.reading.proofs.Whole.{row-good, row-bad}
use borrow.Author.Rules.{rules}
use Rattle.reading.proofs.row_commit.Goals as goal

pub returns-in-Some : goal.returns-in-Some
returns-in-Some c = let x = c.args in
    row-good x.position (pair_in _ x.graph.now x.l x.position) (parents_in _ x.graph.now x.l x.position)
    (sym c.in-Some.is ∙ c.parents.ensures) c.level.ensures c.seconds.ensures

pub returns-in-None : goal.returns-in-None
returns-in-None c = let x = c.args in
    row-bad x.position (pair_in _ x.graph.now x.l x.position) (parents_in _ x.graph.now x.l x.position) (sym c.in-None.is ∙ c.parents.ensures)
