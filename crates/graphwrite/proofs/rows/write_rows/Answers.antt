-- `graphwrite::rows::write_rows` meets its contract: after k rows the first k parts stand there, and e counts their entries of EDGE. Assumes nothing.
use mathlib.Core.Path.{refl, sym, ◌∙◌, ap}
use Prim.Native.Nat.{ℕ, ◌+◌, ◌*◌, ◌≤◌}
use native.Mathlib.Omega.{arith}
use lib.ListN.{length}
use Rattle.hash.specs.Bytes.{width_of}
use borrow.Author.Rules.{rules}
use Rattle.graphplan.specs.StoreRows.{row_of, rows_of}
use Rattle.hash.proofs.Widths.{apart, width_least}
use Rattle.odb.specs.Lookup.{entry_body}
use Rattle.commitgraph.specs.Graph.{row_size}
use Rattle.levels.specs.StoreGraph.{lines_in}
use Rattle.levels.proofs.Lines.{lines_few}
use Rattle.graphfile.specs.GraphFile.{data_from, row_bytes}
use Rattle.graphplan.proofs.Planning.{few-entries}
use Rattle.graphplan.proofs.RowLaws.{edges-up_to, edges_few, entry-edges, count-few}
use Rattle.graphbytes.proofs.Lists.{edges_before_none}
use Rattle.graphbytes.proofs.Fill.{fill_none, fill_next, fill_all}
use Rattle.graphplan.proofs.Wides.{wide-data, data-part, data-many}
use Rattle.graphplan.proofs.StoreLinks.{edges_step}
use Rattle.graphwrite.proofs.rows.write_rows.Goals as goal

pub loop-k-init : goal.loop-k-init
loop-k-init c = let x = c.args in let rs = rows_of (width_of x.kind) x.store.now in (omega arith, omega arith, sym (edges_before_none rs), refl, fill_none x.out.now x.from (data_from 0 rs) (omega (arith, c.requires.2)))

pub put_row-e-requires : goal.put_row-e-requires
put_row-e-requires c = let x = c.args in
    let w = width_of x.kind in
    let t = c.loop-k-test.true in
    (c.requires.0, c.requires.1, t, omega (arith, edges-up_to w x.store.now c.loop-k.k (omega (arith, c.loop-k.invariant.0, c.requires.0.many)), edges_few w x.store.now c.loop-k.k, few-entries w x.store.now (width_least x.kind) c.requires.0.small, c.requires.0.many, c.loop-k.invariant.2, t), omega (arith, c.loop-k.invariant.1, c.loop-k.invariant.3, apart (row_size w) t, c.requires.2))

pub overflow_add-e : goal.overflow_add-e
overflow_add-e c = let x = c.args in
    let w = width_of x.kind in
    omega (arith, edges-up_to w x.store.now c.loop-k.k (omega (arith, c.loop-k.invariant.0, c.requires.0.many)), edges_few w x.store.now c.loop-k.k, few-entries w x.store.now (width_least x.kind) c.requires.0.small, c.requires.0.many, c.loop-k.invariant.2, c.put_row-e.ensures.1, entry-edges w x.store.now c.loop-k.k, count-few (length (lines_in w (entry_body w x.store.now c.loop-k.k)).ids) (lines_few w (entry_body w x.store.now c.loop-k.k)))

pub overflow_add-p : goal.overflow_add-p
overflow_add-p c = let x = c.args in
    let w = width_of x.kind in
    let t = c.loop-k-test.true in
    let f : c.loop-k.p + (c.width-size.result + 16) ≤ length x.out.now = omega (arith, c.loop-k.invariant.1, c.width-size.ensures.0, apart (row_size w) t, c.requires.2) in
    search rules

pub loop-k-preserved : goal.loop-k-preserved
loop-k-preserved c = let x = c.args in
    let w = width_of x.kind in
    let t = c.loop-k-test.true in
    let g = data-many w x.store.now x.n c.requires.0 in (
      omega arith,
      omega (arith, c.loop-k.invariant.1, c.width-size.ensures.0),
      edges_step w x.store.now x.n c.loop-k.k c.loop-k.e c.put_row-e.result c.requires.0 t c.loop-k.invariant.2 c.put_row-e.ensures.1,
      c.put_row-e.auto.out ∙ c.loop-k.invariant.3,
      fill_next (row_size w) c.loop-k.p _ (wide-data w x.store.now x.n c.requires.0) (omega (arith, g)) (omega (arith, ap (λ (y : ℕ). row_size w * y) g, c.requires.2)) c.loop-k.invariant.4 c.put_row-e.ensures.0 c.loop-k.invariant.1 (ap (λ (z : ℕ). row_bytes z (row_of w x.store.now c.loop-k.k)) c.loop-k.invariant.2 ∙ data-part w x.store.now x.n c.requires.0 c.loop-k.k t),
    )

pub shape_of-out : goal.shape_of-out
shape_of-out c = c.loop-k.invariant.3

pub returns : goal.returns
returns c = let x = c.args in
    let w = width_of x.kind in
    fill_all c.loop-k.invariant.4 (omega (arith, data-many w x.store.now x.n c.requires.0, c.loop-k-test.false))
