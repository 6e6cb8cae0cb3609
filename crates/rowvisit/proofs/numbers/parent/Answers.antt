-- `rowvisit::numbers::parent` meets its contract: each test picks one case of the definition, over the row's numbers. Assumes nothing.
use mathlib.Core.Path.{◌∙◌, sym, ap}
use Prim.Native.Nat.{ℕ, ◌+◌, ◌-◌, ◌%◌}
use native.Mathlib.Omega.{arith}
use Rattle.hash.specs.Bytes.{width_of}
use Rattle.commitgraph.specs.Graph.{edge_in, top_bit}
use Rattle.commitgraph.proofs.Edges.{parent-first, parent-second, parent-edge}
use Rattle.rowvisit.proofs.numbers.parent.Goals as goal

pub returns-then-k-eq0 : goal.returns-then-k-eq0
returns-then-k-eq0 c =
    let x = c.args in
    c.wide.ensures.0 ∙ (c.requires.first ∙ sym (parent-first (width_of x.kind) x.graph.now x.l x.position x.k c.if-k-eq0.true))

pub returns-then-second-lt-TOP : goal.returns-then-second-lt-TOP
returns-then-second-lt-TOP c =
    let x = c.args in
    c.wide-then-second-lt-TOP.ensures.0 ∙ (c.requires.second ∙ sym (parent-second (width_of x.kind) x.graph.now x.l x.position x.k c.if-k-eq0.false (omega (arith, c.requires.second))))

pub returns : goal.returns
returns c =
    let x = c.args in
    let g = x.graph.now in
    let j = c.wide-2.ensures.0 ∙ ap (λ (b : ℕ). b % top_bit) c.requires.second in
    c.wide-3.ensures.0
    ∙ (ap (λ (v : ℕ). v % top_bit) (c.edge.ensures ∙ ap (λ (n : ℕ). edge_in g x.l (n + (x.k - 1))) j)
    ∙ sym (parent-edge (width_of x.kind) g x.l x.position x.k c.if-k-eq0.false (omega (arith, c.requires.second))))
