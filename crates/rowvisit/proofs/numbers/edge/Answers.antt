-- `rowvisit::numbers::edge` meets its contract: it reads at a place that is cut off at the end of the file, where every byte counts as 0. Assumes nothing.
use mathlib.Core.Path.{◌∙◌, ap}
use Prim.Native.Nat.{ℕ, ◌+◌, ◌*◌, min}
use lib.ListN.{length}
use Rattle.hash.specs.Bytes.{u32_at}
use Rattle.commitgraph.specs.Graph.{edge_in}
use Rattle.commitgraph.proofs.RowsPlace.{u32_at-cut, edge_cut}
use Rattle.rowvisit.proofs.numbers.edge.Goals as goal

pub returns : goal.returns
unfolding edge_in
returns c = let x = c.args in
    let g = x.graph.now in
    let there = c.place.ensures ∙ (ap (λ (k : ℕ). min (k + 4 * x.i) (length g)) c.place-list.ensures ∙ edge_cut g x.l.edge x.from x.i) in
    c.be32.ensures ∙ (ap (u32_at g) there ∙ u32_at-cut g (x.l.edge + 4 * (x.from + x.i)))
