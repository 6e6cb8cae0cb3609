-- `chunks::is_good` meets its contract: each test that fails makes the whole false; the sizes are tested before anything is read at them,
-- so that all that is read stands in the file. Assumes nothing.
use mathlib.Core.Path.{◌≡◌, sym, ap, ◌∙◌}
use mathlib.Core.Bool.{true, false}
use borrow.Author.Tests.{not-true, not-false}
use Rattle.commitgraph.specs.Graph.{OIDF, OIDL, chunk_start, table_ok, graph_count, chunks_ok, graph_ok, places_of}
use Rattle.commitgraph.specs.declared.Layout.{Layout}
use Rattle.commitgraph.proofs.LayoutRight.{sized, Placed, placed}
use borrow.Author.Rules.{rules}
use Rattle.commitgraph.proofs.chunks.is_good.Goals as goal

pub returns-then-not-has_table : goal.returns-then-not-has_table
unfolding graph_ok
returns-then-not-has_table c = let w = c.width-w in
    let t : table_ok w.result c.args.graph.now ≡ false = sym c.has_table.ensures ∙ c.if-not-has_table.true in
    rw (sym w.ensures.0, t)

pub returns-then-not-has_sizes : goal.returns-then-not-has_sizes
unfolding graph_ok chunks_ok
returns-then-not-has_sizes c = let w = c.width-w in
    let g = c.args.graph.now in
    let t : table_ok w.result g ≡ true = sym c.has_table.ensures ∙ c.if-not-has_table.false in
    let s : sized w.result g ≡ false = sym c.has_sizes.ensures ∙ c.if-not-has_sizes.true in
    rw (sym w.ensures.0, t, s)

pub fan_rises-requires : goal.fan_rises-requires
unfolding places_of
fan_rises-requires c =
    let table-good : table_ok c.width-w.result c.args.graph.now ≡ true = sym c.has_table.ensures ∙ c.if-not-has_table.false in
    let sizes-good : sized c.width-w.result c.args.graph.now ≡ true = sym c.has_sizes.ensures ∙ c.if-not-has_sizes.false in
    let inside : Placed c.width-w.result c.args.graph.now = placed c.width-w.result c.args.graph.now table-good sizes-good in
    let fan_start : c.places-l.result.fan ≡ chunk_start c.args.graph.now OIDF = ap (λ (l : Layout). l.fan) c.places-l.ensures in
    let e = fan_start in
    (e, rw e inside.fan)

pub returns-then-not-fan_rises : goal.returns-then-not-fan_rises
unfolding graph_ok chunks_ok
returns-then-not-fan_rises c =
    let table-good : table_ok c.width-w.result c.args.graph.now ≡ true = sym c.has_table.ensures ∙ c.if-not-has_table.false in
    let sizes-good : sized c.width-w.result c.args.graph.now ≡ true = sym c.has_sizes.ensures ∙ c.if-not-has_sizes.false in
    let f = c.fan_rises.ensures.1 c.if-not-fan_rises.true in
    rw (sym c.width-w.ensures.0, table-good, sizes-good, f)

pub ids_fit-requires : goal.ids_fit-requires
unfolding places_of
ids_fit-requires c =
    let table-good : table_ok c.width-w.result c.args.graph.now ≡ true = sym c.has_table.ensures ∙ c.if-not-has_table.false in
    let sizes-good : sized c.width-w.result c.args.graph.now ≡ true = sym c.has_sizes.ensures ∙ c.if-not-has_sizes.false in
    let inside : Placed c.width-w.result c.args.graph.now = placed c.width-w.result c.args.graph.now table-good sizes-good in
    let fan_start : c.places-l.result.fan ≡ chunk_start c.args.graph.now OIDF = ap (λ (l : Layout). l.fan) c.places-l.ensures in
    let ids-start : c.places-l.result.ids ≡ chunk_start c.args.graph.now OIDL = ap (λ (l : Layout). l.ids) c.places-l.ensures in
    let n_read : c.places-l.result.count ≡ graph_count c.args.graph.now = ap (λ (l : Layout). l.count) c.places-l.ensures in
    let e = fan_start in
    (e, rw e inside.fan, ids-start, n_read, rw (ids-start, n_read, sym c.width-w.ensures.0) inside.ids, c.fan_rises.ensures.0 c.if-not-fan_rises.false)

pub returns : goal.returns
unfolding graph_ok chunks_ok
returns c =
    let table-good : table_ok c.width-w.result c.args.graph.now ≡ true = sym c.has_table.ensures ∙ c.if-not-has_table.false in
    let sizes-good : sized c.width-w.result c.args.graph.now ≡ true = sym c.has_sizes.ensures ∙ c.if-not-has_sizes.false in
    let v = c.width-w.ensures.0 in
    rw (sym v, table-good, sizes-good) (rw (sym v) at c.ids_fit.ensures)
