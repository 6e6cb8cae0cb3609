-- `row_in` meets its contract: it reads at a place that is cut off at the end of the file, where the place itself reads as nothing too. Assumes nothing.
use mathlib.Core.Path.{◌∙◌, ap}
use Prim.Native.Nat.{ℕ, ◌+◌, ◌*◌}
use Rattle.hash.specs.Bytes.{at}
use Rattle.commitgraph.specs.Graph.{row_size, row_in}
use Rattle.commitgraph.proofs.RowsPlace.{at_cut}
use borrow.Author.Rules.{rules}
use Rattle.commitgraph.proofs.rows.row_in.Goals as goal

pub returns : goal.returns
unfolding row_in
returns c = let x = c.args in
    let g = x.graph.now in
    let n = row_size x.w in
    c.part.ensures ∙ (ap (at g c.start_in.result) c.size.ensures ∙ (ap (λ (k : ℕ). at g k n) c.start_in.ensures ∙ at_cut g (x.l.rows + n * x.p) n))
