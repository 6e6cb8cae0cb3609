-- `parent` meets its contract: each test picks one case of the definition, over the row's numbers. Assumes nothing.
use mathlib.Core.Path.{◌∙◌, sym, ap}
use Prim.Native.Nat.{ℕ, ◌+◌, ◌-◌, ◌%◌}
use native.Mathlib.Omega.{arith}
use Rattle.hash.specs.Bytes.{width_of}
use Rattle.commitgraph.specs.Graph.{row_in, edge_in, top_bit}
use Rattle.commitgraph.proofs.RowsPlace.{field, first_field}
use Rattle.commitgraph.proofs.Edges.{parent-first, parent-second, parent-edge}
use borrow.Author.Rules.{rules}
use Rattle.commitgraph.proofs.parents.parent.Goals as goal

pub returns-then-k-eq0 : goal.returns-then-k-eq0
returns-then-k-eq0 c =
    let x = c.args in
    let w = width_of x.kind in
    let g = x.graph.now in
    let row = row_in w g x.l x.p in
    c.wide.ensures.0 ∙ (first_field w row c.be32.ensures c.numbers-part.ensures ∙ sym (parent-first w g x.l x.p x.k c.if-k-eq0.true))

pub returns-then-b-lt-TOP : goal.returns-then-b-lt-TOP
returns-then-b-lt-TOP c =
    let x = c.args in
    let w = width_of x.kind in
    let g = x.graph.now in
    let row = row_in w g x.l x.p in
    let second = field w 4 row (omega arith) c.be32-b.ensures c.numbers-part.ensures in
    c.wide-then-b-lt-TOP.ensures.0 ∙ (second ∙ sym (parent-second w g x.l x.p x.k c.if-k-eq0.false (omega (arith, second))))

pub returns : goal.returns
returns c =
    let x = c.args in
    let w = width_of x.kind in
    let g = x.graph.now in
    let row = row_in w g x.l x.p in
    let second = field w 4 row (omega arith) c.be32-b.ensures c.numbers-part.ensures in
    let j = c.wide-2.ensures.0 ∙ ap (λ (b : ℕ). b % top_bit) second in
    c.wide-3.ensures.0
    ∙ (ap (λ (v : ℕ). v % top_bit) (c.edge.ensures ∙ ap (λ (n : ℕ). edge_in g x.l (n + (x.k - 1))) j)
    ∙ sym (parent-edge w g x.l x.p x.k c.if-k-eq0.false (omega (arith, second))))
