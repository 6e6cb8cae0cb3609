-- `after_first` meets its contract: each test picks one case of the definition. Assumes nothing.
use borrow.Author.Rules.{rules}
use mathlib.Core.Path.{◌∙◌, sym, ap}
use Prim.Native.Nat.{ℕ}
use Rattle.commitgraph.specs.Graph.{edges_from, counted_from}
use Rattle.commitgraph.proofs.Edges.{after_none, after-edges, after_one, after-high}
use Rattle.commitgraph.proofs.parents.after_first.Goals as goal

pub returns-then-b-eq-NONE : goal.returns-then-b-eq-NONE
returns-then-b-eq-NONE c = let x = c.args in
    sym (ap (counted_from 1) (after_none x.graph.now x.l x.b c.if-b-eq-NONE.true))

pub returns-then-b-ge-TOP : goal.returns-then-b-ge-TOP
returns-then-b-ge-TOP c = let x = c.args in
    let g = x.graph.now in
    c.edges.ensures
    ∙ (ap (λ (j : ℕ). counted_from 1 (edges_from g x.l 255 j)) c.wide.ensures.0
    ∙ sym (ap (counted_from 1) (after-edges g x.l x.b c.if-b-ge-TOP.true)))

pub returns-then-wide-l : goal.returns-then-wide-l
returns-then-wide-l c = let x = c.args in
    sym (ap (counted_from 1) (after_one x.graph.now x.l x.b c.if-b-eq-NONE.false c.if-b-ge-TOP.false (search rules)))

pub returns : goal.returns
returns c = let x = c.args in
    sym (ap (counted_from 1) (after-high x.graph.now x.l x.b c.if-b-eq-NONE.false c.if-b-ge-TOP.false (search rules)))
