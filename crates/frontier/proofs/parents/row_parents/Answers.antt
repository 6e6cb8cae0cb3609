-- `parents::row_parents` meets its contract: the parent list decides. Assumes nothing.
use mathlib.Core.Path.{sym, ◌∙◌, ap}
use Rattle.commitgraph.specs.Graph.{parents_in}
use Rattle.walk.specs.declared.GenThenTime.{GenThenTime}
use Rattle.reading.proofs.Whole.{row-good, row-bad}
use Rattle.frontier.specs.Parents.{no_pair}
use Rattle.frontier.proofs.parents.row_parents.Goals as goal

pub returns-in-Some : goal.returns-in-Some
returns-in-Some c = let x = c.args in
    row-good x.position no_pair (parents_in _ x.graph.now x.l x.position) (sym c.in-Some.is ∙ c.parents.ensures)
    (ap (λ (p : GenThenTime). p.generation.0) c.no_pair.ensures) (ap (λ (p : GenThenTime). p.time.0) c.no_pair.ensures)

pub returns-in-None : goal.returns-in-None
returns-in-None c = let x = c.args in
    row-bad x.position no_pair (parents_in _ x.graph.now x.l x.position) (sym c.in-None.is ∙ c.parents.ensures)
