-- `end` meets its contract: a row that does not end in the file is cut off at its end. Assumes nothing.
use mathlib.Core.Path.{◌∙◌, ap}
use Prim.Native.Nat.{ℕ, ◌+◌}
use native.Mathlib.Omega.{arith}
use Rattle.hash.specs.Bytes.{width_of}
use Rattle.commitgraph.proofs.RowsPlace.{start-inside, end-past, end-inside}
use borrow.Author.Rules.{rules}
use Rattle.commitgraph.proofs.rows.end.Goals as goal

pub overflow_sub-graph : goal.overflow_sub-graph
overflow_sub-graph c = let x = c.args in
    omega (arith, c.start-from.ensures, start-inside (width_of x.kind) x.graph.now x.l x.p)

pub returns-then-graph-from : goal.returns-then-graph-from
returns-then-graph-from c = let x = c.args in
    end-past (width_of x.kind) x.graph.now x.l x.p c.start-from.ensures (c.size-size.ensures ∙ ap (λ (w : ℕ). w + 16) c.width.ensures.0) c.if-graph-from.true

pub returns : goal.returns
returns c = let x = c.args in
    end-inside (width_of x.kind) x.graph.now x.l x.p c.start-from.ensures (c.size-size.ensures ∙ ap (λ (w : ℕ). w + 16) c.width.ensures.0) c.if-graph-from.false
