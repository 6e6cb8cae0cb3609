-- `graphwrite::rows::put_edges` meets its contract: after parent j the entries before it stand there. Assumes nothing.
use mathlib.Core.Path.{◌≡◌, refl, sym, ◌∙◌, ap}
use Prim.Native.Nat.{◌+◌, ◌-◌, ◌≤◌, ◌<◌}
use native.Mathlib.Omega.{arith}
use lib.ListN.{length}
use Rattle.hash.specs.Bytes.{width_of}
use borrow.Author.Rules.{rules}
use Rattle.graphplan.specs.StoreRows.{row_of}
use Rattle.graphfile.specs.GraphFile.{u32, words, edges_of}
use Rattle.graphfile.proofs.Pieces.{length_words, nth_words, wide-words}
use Rattle.graphbytes.proofs.Fill.{fill_none, fill_step, fill_all}
use Rattle.graphplan.proofs.StoreLinks.{parents-count}
use Rattle.graphbytes.proofs.Lists.{edges_none, edges-long}
use Rattle.graphwrite.proofs.rows.put_edges.Goals as goal

pub returns-then-c-le2 : goal.returns-then-c-le2
returns-then-c-le2 c = let x = c.args in
    let d : c.count_of-c.result ≡ length (row_of (width_of x.kind) x.store.now x.k).parents = c.count_of-c.ensures ∙ sym (parents-count (width_of x.kind) x.store.now x.k) in
    edges_none x.out.now x.p (row_of (width_of x.kind) x.store.now x.k).parents (omega (arith, d, c.if-c-le2.true)) (omega (arith, c.requires.2))

pub loop-j-init : goal.loop-j-init
loop-j-init c = let x = c.args in (omega arith, omega (arith, c.if-c-le2.false), omega arith, refl, fill_none x.out.now x.p (words (edges_of (row_of (width_of x.kind) x.store.now x.k).parents)) (omega (arith, c.requires.2)))

pub edge_of-requires : goal.edge_of-requires
edge_of-requires c = let x = c.args in
    let ps = (row_of (width_of x.kind) x.store.now x.k).parents in
    let d : c.count_of-c.result ≡ length ps = c.count_of-c.ensures ∙ sym (parents-count (width_of x.kind) x.store.now x.k) in
    (c.requires.0, c.requires.1, d, c.if-c-le2.false, c.loop-j.invariant.0, c.loop-j-test.true)

pub overflow_add-q : goal.overflow_add-q
overflow_add-q c = let x = c.args in
    let ps = (row_of (width_of x.kind) x.store.now x.k).parents in
    let d : c.count_of-c.result ≡ length ps = c.count_of-c.ensures ∙ sym (parents-count (width_of x.kind) x.store.now x.k) in
    let g = edges-long ps (omega (arith, d, c.if-c-le2.false)) in
    let f : c.loop-j.q + 4 ≤ length x.out.now = omega (arith, c.loop-j.invariant.0, c.loop-j.invariant.2, g, d, c.requires.2, c.loop-j-test.true) in
    search rules

pub loop-j-preserved : goal.loop-j-preserved
loop-j-preserved c = let x = c.args in
    let ps = (row_of (width_of x.kind) x.store.now x.k).parents in
    let d : c.count_of-c.result ≡ length ps = c.count_of-c.ensures ∙ sym (parents-count (width_of x.kind) x.store.now x.k) in
    let t = c.loop-j-test.true in
    let g = edges-long ps (omega (arith, d, c.if-c-le2.false)) in
    let n = length_words (edges_of ps) in
    let i : c.loop-j.j - 1 < length (edges_of ps) = omega (arith, c.loop-j.invariant.0, g, d, t) in (
      omega arith,
      omega (arith, t),
      omega (arith, c.loop-j.invariant.0, c.loop-j.invariant.2),
      c.put_word.auto.out ∙ c.loop-j.invariant.3,
      fill_step 4 c.loop-j.q _ (wide-words (edges_of ps)) (omega (arith, i, n)) (omega (arith, n, c.requires.2)) c.loop-j.invariant.4 c.put_word.ensures c.loop-j.invariant.2 (ap u32 c.edge_of.ensures ∙ sym (nth_words (edges_of ps) (c.loop-j.j - 1) i)) (omega (arith, c.loop-j.invariant.0)),
    )

pub shape_of-out : goal.shape_of-out
shape_of-out c = c.loop-j.invariant.3

pub returns : goal.returns
returns c = let x = c.args in
    let ps = (row_of (width_of x.kind) x.store.now x.k).parents in
    let d : c.count_of-c.result ≡ length ps = c.count_of-c.ensures ∙ sym (parents-count (width_of x.kind) x.store.now x.k) in
    let g = edges-long ps (omega (arith, d, c.if-c-le2.false)) in
    let n = length_words (edges_of ps) in
    (fill_all c.loop-j.invariant.4 (omega (arith, n, g, d, c.loop-j-test.false)), omega (arith, c.loop-j.invariant.2, c.loop-j.invariant.1, g, d, c.loop-j-test.false))
