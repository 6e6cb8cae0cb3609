-- `chunks::table_ends` meets its contract: each test that fails makes the whole false. Assumes nothing.
use mathlib.Core.Path.{◌≡◌, sym, ◌∙◌}
use Prim.Native.Nat.{◌+◌, ◌*◌}
use native.Mathlib.Omega.{arith}
use lib.ListN.{length}
use borrow.Author.Tests.{eq-eqb, ne_eqb}
use Rattle.commitgraph.specs.Graph.{chunk_id, chunk_offset}
use Rattle.commitgraph.proofs.Table.{eqb_past}
use borrow.Author.Rules.{rules}
use Rattle.commitgraph.proofs.chunks.table_ends.Goals as goal

pub returns-then-row_id-ne0 : goal.returns-then-row_id-ne0
returns-then-row_id-ne0 c = let x = c.args in
    let p : chunk_id x.graph.now x.count ≡ 0 → ⊥ = λ e. c.if-row_id-ne0.true (c.row_id.ensures ∙ e) in
    rw (ne_eqb _ _ p)

pub returns-then-row_offset-count : goal.returns-then-row_offset-count
returns-then-row_offset-count c = let x = c.args in
    let p : chunk_id x.graph.now x.count ≡ 0 = sym c.row_id.ensures ∙ c.if-row_id-ne0.false in
    let q : chunk_offset x.graph.now 0 ≡ 8 + 12 * (x.count + 1) → ⊥ = λ e. c.if-row_offset-count.true (c.row_offset.ensures ∙ e) in
    rw (eq-eqb _ _ p, ne_eqb _ _ q)

pub returns : goal.returns
returns c = let x = c.args in
    let p : chunk_id x.graph.now x.count ≡ 0 = sym c.row_id.ensures ∙ c.if-row_id-ne0.false in
    let q : chunk_offset x.graph.now 0 ≡ 8 + 12 * (x.count + 1) = sym c.row_offset.ensures ∙ c.if-row_offset-count.false in
    let r : c.row_offset-2.result ≡ chunk_offset x.graph.now x.count = c.row_offset-2.ensures in
    rw (eq-eqb _ _ p, eq-eqb _ _ q, r) (eqb_past x.w (chunk_offset x.graph.now x.count) (length x.graph.now) (omega arith))
