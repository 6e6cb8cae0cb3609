-- `chunks::ids_fit` meets its contract: ids that do not rise spoil the whole, and of rising ids the entries of the fan-out decide. Assumes nothing.
use mathlib.Core.Path.{◌≡◌, sym, ◌∙◌}
use native.Mathlib.Omega.{arith}
use borrow.Author.Tests.{not-true, not-false}
use Rattle.hash.specs.Bytes.{width_of}
use Rattle.hash.proofs.Widths.{width_least}
use Rattle.idlist.specs.IdList.{rising}
use Rattle.commitgraph.specs.Graph.{graph_count, graph_ids}
use Rattle.commitgraph.proofs.Table.{graph-count}
use Rattle.commitgraph.proofs.Fan.{ids-told, not-rising, entries_decide}
use borrow.Author.Rules.{rules}
use Rattle.commitgraph.proofs.chunks.ids_fit.Goals as goal

pub returns-then-not-is_rising : goal.returns-then-not-is_rising
returns-then-not-is_rising c =
    let rise : let x = c.args in c.is_rising.result ≡ rising (graph_ids (width_of x.kind) x.graph.now) (graph_count x.graph.now) =
    let x = c.args in
    ids-told (width_of x.kind) x.graph.now x.ids x.count (omega (arith, width_least x.kind)) c.requires.2 c.requires.3 c.requires.4 (rw c.width-w.ensures.0 at c.is_rising.ensures) in
    let x = c.args in
    sym (not-rising (width_of x.kind) x.graph.now (sym rise ∙ c.if-not-is_rising.true))

pub fan_parts-requires : goal.fan_parts-requires
fan_parts-requires c =
    let v = c.width-w.ensures in
    (c.requires.0, c.requires.1, c.requires.2, c.requires.3, rw v.0 c.requires.4, omega (arith, v.1), c.requires.5)

pub returns : goal.returns
returns c =
    let rise : let x = c.args in c.is_rising.result ≡ rising (graph_ids (width_of x.kind) x.graph.now) (graph_count x.graph.now) = let s = c in
    let x = s.args in
    ids-told (width_of x.kind) x.graph.now x.ids x.count (omega (arith, width_least x.kind)) s.requires.2 s.requires.3 s.requires.4 (rw c.width-w.ensures.0 at c.is_rising.ensures) in
    let t = c in
    let s = t in
    let x = s.args in
    entries_decide (width_of x.kind) x.graph.now c.fan_parts.result (sym (graph-count x.graph.now)) s.requires.5 (λ i. omega (arith, t.shared_slice_known-1.given i)) (sym rise ∙ c.if-not-is_rising.false) (rw t.width-w.ensures.0 at c.fan_parts.ensures)
