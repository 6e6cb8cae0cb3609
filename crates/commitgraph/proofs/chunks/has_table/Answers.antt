-- `chunks::has_table` meets its contract: each test that fails makes the whole false, and the last decides the rest. Assumes nothing.
use mathlib.Core.Path.{◌≡◌, sym, ◌∙◌}
use Prim.Native.Nat.{◌+◌, ◌*◌, ◌≤◌, ◌<◌}
use native.Mathlib.Omega.{arith}
use lib.ListN.{length}
use borrow.Author.Tests.{le-leb, lt-leb, not-true, not-false}
use Rattle.commitgraph.specs.Graph.{chunk_count, table_ok}
use borrow.Author.Rules.{rules}
use Rattle.commitgraph.proofs.chunks.has_table.Goals as goal

pub returns-then-graph-count : goal.returns-then-graph-count
unfolding table_ok
returns-then-graph-count c = let w = c.args.w in
    let g = c.args.graph.now in
    let n : c.chunk_count-count.result ≡ chunk_count g = c.chunk_count-count.ensures.0 in
    let h : length g < 8 + 12 * (chunk_count g + 1) + w = omega arith in
    rw (lt-leb _ _ h)

pub returns-then-not-table_ends : goal.returns-then-not-table_ends
unfolding table_ok
returns-then-not-table_ends c = let w = c.args.w in
    let g = c.args.graph.now in
    let n : c.chunk_count-count.result ≡ chunk_count g = c.chunk_count-count.ensures.0 in
    let h : 8 + 12 * (chunk_count g + 1) + w ≤ length g = omega arith in
    let t = rw n at (sym c.table_ends.ensures ∙ c.if-not-table_ends.true) in
    rw (le-leb _ _ h, t)

pub returns-then-not-offsets_rise : goal.returns-then-not-offsets_rise
unfolding table_ok
returns-then-not-offsets_rise c = let w = c.args.w in
    let g = c.args.graph.now in
    let n : c.chunk_count-count.result ≡ chunk_count g = c.chunk_count-count.ensures.0 in
    let h : 8 + 12 * (chunk_count g + 1) + w ≤ length g = omega arith in
    let t = rw n at (sym c.table_ends.ensures ∙ c.if-not-table_ends.false) in
    let o = rw n at (sym c.offsets_rise.ensures ∙ c.if-not-offsets_rise.true) in
    rw (le-leb _ _ h, t, o)

pub returns : goal.returns
unfolding table_ok
returns c = let w = c.args.w in
    let g = c.args.graph.now in
    let n : c.chunk_count-count.result ≡ chunk_count g = c.chunk_count-count.ensures.0 in
    let h : 8 + 12 * (chunk_count g + 1) + w ≤ length g = omega arith in
    let t = rw n at (sym c.table_ends.ensures ∙ c.if-not-table_ends.false) in
    let o = rw n at (sym c.offsets_rise.ensures ∙ c.if-not-offsets_rise.false) in
    rw (le-leb _ _ h, t, o) (rw n at c.chunks_once.ensures)
