-- `chunks::parse` meets its contract, field by field: the places are those of the table, and the levels are judged by them. Assumes nothing.
use mathlib.Core.Path.{ap, ◌∙◌}
use Rattle.hash.specs.Bytes.{width_of}
use Rattle.commitgraph.specs.declared.Layout.{Layout}
use Rattle.commitgraph.specs.Graph.{places_of, layout_of, levelled}
use borrow.Author.Rules.{rules}
use Rattle.commitgraph.proofs.chunks.parse.Goals as goal

pub returns : goal.returns
unfolding layout_of places_of
returns c = let x = c.args in
    let p = c.places-l.ensures in
    λ j. record {
      fan = (p j).fan;
      ids = (p j).ids;
      rows = (p j).rows;
      edge = (p j).edge;
      edges = (p j).edges;
      count = (p j).count;
      levels = (c.has_levels-levels.ensures ∙ ap (λ (m : Layout). levelled (width_of x.kind) x.graph.now m m.count) p) j;
    }
