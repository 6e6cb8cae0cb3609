-- `graphwrite::rows::write_edges` meets its contract: after k entries the lists of the first k rows stand there. Assumes nothing.
use mathlib.Core.Path.{◌≡◌, refl, sym, ◌∙◌, ap}
use Prim.Native.Nat.{◌<◌}
use native.Mathlib.Omega.{arith}
use lib.ListN.{length}
use Rattle.hash.specs.Bytes.{width_of}
use Rattle.graphfile.specs.GraphFile.{Row, row_at, edges_of}
use Rattle.graphfile.proofs.Pieces.{edges_before}
use Rattle.graphplan.specs.StoreRows.{row_of, rows_of}
use Rattle.graphplan.proofs.RowLaws.{length_rows, row-at}
use Rattle.graphbytes.proofs.Lists.{edges_before_none}
use Rattle.graphbytes.proofs.Lists.{listed-none, listed_next, listed-all, before_next_most}
use Rattle.graphplan.proofs.StoreLinks.{edges_step}
use Rattle.graphwrite.proofs.rows.write_edges.Goals as goal

pub loop-k-init : goal.loop-k-init
loop-k-init c = let x = c.args in let rs = rows_of (width_of x.kind) x.store.now in (omega arith, omega (arith, edges_before_none rs), refl, listed-none x.out.now x.from rs (omega (arith, c.requires.1)))

pub put_edges-p-requires : goal.put_edges-p-requires
put_edges-p-requires c = let x = c.args in
    let w = width_of x.kind in
    let rs = rows_of w x.store.now in
    let t = c.loop-k-test.true in
    let h : c.loop-k.k < length rs = omega (arith, length_rows w x.store.now, c.requires.0.many, t) in
    let r : length (edges_of (row_at rs c.loop-k.k).parents) ≡ length (edges_of (row_of w x.store.now c.loop-k.k).parents) = ap (λ (q : Row). length (edges_of q.parents)) (row-at w x.store.now c.loop-k.k (omega (arith, c.requires.0.many, t))) in
    (c.requires.0, t, omega (arith, c.loop-k.invariant.1, c.loop-k.invariant.2, r, before_next_most rs c.loop-k.k h, c.requires.1))

pub loop-k-preserved : goal.loop-k-preserved
loop-k-preserved c = let x = c.args in
    let w = width_of x.kind in
    let rs = rows_of w x.store.now in
    let t = c.loop-k-test.true in
    let h : c.loop-k.k < length rs = omega (arith, length_rows w x.store.now, c.requires.0.many, t) in
    let r : edges_of (row_of w x.store.now c.loop-k.k).parents ≡ edges_of (row_at rs c.loop-k.k).parents = sym (ap (λ (q : Row). edges_of q.parents) (row-at w x.store.now c.loop-k.k (omega (arith, c.requires.0.many, t)))) in
    let g = edges_step w x.store.now x.n c.loop-k.k (edges_before rs c.loop-k.k) (length (edges_of (row_of w x.store.now c.loop-k.k).parents)) c.requires.0 t refl refl in (
      omega (arith, t),
      omega (arith, c.put_edges-p.ensures.1, c.loop-k.invariant.1, g),
      c.put_edges-p.auto.out ∙ c.loop-k.invariant.2,
      listed_next c.loop-k.p (edges_of (row_of w x.store.now c.loop-k.k).parents) h c.requires.1 c.loop-k.invariant.3 c.put_edges-p.ensures.0 c.loop-k.invariant.1 r,
    )

pub shape_of-out : goal.shape_of-out
shape_of-out c = c.loop-k.invariant.2

pub returns : goal.returns
returns c = let x = c.args in
    let w = width_of x.kind in
    let rs = rows_of w x.store.now in
    listed-all c.loop-k.invariant.3 (omega (arith, length_rows w x.store.now, c.requires.0.many, c.loop-k-test.false, c.loop-k.invariant.0))
