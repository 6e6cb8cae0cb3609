-- `graphwrite::rows::edge_of` meets its contract: the last of the list has the top bit. Assumes nothing.
use mathlib.Core.Path.{sym, ◌∙◌}
use native.Mathlib.Omega.{arith}
use Rattle.hash.specs.Bytes.{width_of}
use Rattle.graphplan.specs.StoreRows.{row_of}
use Rattle.graphplan.proofs.Planning.{few-entries}
use Rattle.hash.proofs.Widths.{width_least}
use Rattle.graphplan.proofs.StoreLinks.{number_read, number-low}
use Rattle.graphbytes.proofs.Lists.{edge_last, edge_more}
use Rattle.graphwrite.proofs.rows.edge_of.Goals as goal

pub overflow_add-result : goal.overflow_add-result
overflow_add-result c = let x = c.args in
    omega (arith, number_read (width_of x.kind) x.store.now x.n x.k c.requires.0 c.requires.1 x.j c.parent_at-v.result (omega (arith, c.requires.2, c.requires.5)) c.parent_at-v.ensures, number-low (width_of x.kind) x.store.now x.n x.k c.requires.0 c.requires.1 x.j (omega (arith, c.requires.2, c.requires.5)), c.requires.0.many, few-entries (width_of x.kind) x.store.now (width_least x.kind) c.requires.0.small)

pub returns-then-j-c : goal.returns-then-j-c
returns-then-j-c c = let x = c.args in
    edge_last (row_of (width_of x.kind) x.store.now x.k).parents x.j c.parent_at-v.result (omega (arith, c.requires.2, c.requires.3)) c.requires.4 (omega (arith, c.requires.2, c.requires.5)) (c.if-j-c.true ∙ c.requires.2) (number_read (width_of x.kind) x.store.now x.n x.k c.requires.0 c.requires.1 x.j c.parent_at-v.result (omega (arith, c.requires.2, c.requires.5)) c.parent_at-v.ensures)

pub returns : goal.returns
returns c = let x = c.args in
    edge_more (row_of (width_of x.kind) x.store.now x.k).parents x.j c.parent_at-v.result (omega (arith, c.requires.2, c.requires.3)) c.requires.4 (omega (arith, c.requires.2, c.requires.5)) (λ z. c.if-j-c.false (z ∙ sym c.requires.2)) (number_read (width_of x.kind) x.store.now x.n x.k c.requires.0 c.requires.1 x.j c.parent_at-v.result (omega (arith, c.requires.2, c.requires.5)) c.parent_at-v.ensures)
