-- `id_in` meets its contract: it reads at a place that is cut off at the end of the file, where the place itself reads as nothing too. Assumes nothing.
use mathlib.Core.Path.{◌∙◌, ap}
use Prim.Native.Nat.{ℕ, ◌+◌, ◌*◌}
use Rattle.hash.specs.Bytes.{at}
use Rattle.commitgraph.specs.Graph.{id_in}
use Rattle.commitgraph.proofs.RowsPlace.{at_cut}
use borrow.Author.Rules.{rules}
use Rattle.commitgraph.proofs.rows.id_in.Goals as goal

pub returns : goal.returns
unfolding id_in
returns c = let x = c.args in
    let g = x.graph.now in
    c.part.ensures ∙ (ap (λ (k : ℕ). at g k x.w) c.place.ensures ∙ at_cut g (x.l.ids + x.w * x.p) x.w)
