-- `parents` meets its contract: each test picks one case of the definition, over the row's two numbers. Assumes nothing.
use mathlib.Core.Path.{◌∙◌, sym, ap}
use Prim.Native.Nat.{ℕ, ◌+◌}
use native.Mathlib.Omega.{arith}
use Rattle.hash.specs.Bytes.{u32_at, width_of}
use Rattle.commitgraph.specs.Graph.{row_in, after_first, parent_list_of, counted_from}
use Rattle.commitgraph.proofs.RowsPlace.{field, first_field}
use Rattle.commitgraph.proofs.Edges.{parents-root, parents-torn, parents-high, parents-some, counted-first}
use borrow.Author.Rules.{rules}
use Rattle.commitgraph.proofs.parents.parents.Goals as goal

pub returns-then-b-ne-NONE : goal.returns-then-b-ne-NONE
returns-then-b-ne-NONE c =
    let x = c.args in
    let w = width_of x.kind in
    let g = x.graph.now in
    let row = row_in w g x.l x.p in
    let first = first_field w row c.be32-a.ensures c.numbers-part.ensures in
    let second = field w 4 row (omega arith) c.be32-b.ensures c.numbers-part.ensures in
    sym (ap parent_list_of (parents-torn w g x.l x.p (sym first ∙ c.if-a-eq-NONE.true) (λ e. c.if-b-ne-NONE.true (second ∙ e))))

pub returns-then-a-eq-NONE : goal.returns-then-a-eq-NONE
returns-then-a-eq-NONE c =
    let x = c.args in
    let w = width_of x.kind in
    let g = x.graph.now in
    let row = row_in w g x.l x.p in
    let first = first_field w row c.be32-a.ensures c.numbers-part.ensures in
    let second = field w 4 row (omega arith) c.be32-b.ensures c.numbers-part.ensures in
    sym (ap parent_list_of (parents-root w g x.l x.p (sym first ∙ c.if-a-eq-NONE.true) (sym second ∙ c.if-b-ne-NONE.false)))

pub returns-then-l-wide : goal.returns-then-l-wide
returns-then-l-wide c =
    let x = c.args in
    let w = width_of x.kind in
    let g = x.graph.now in
    let row = row_in w g x.l x.p in
    let first = first_field w row c.be32-a.ensures c.numbers-part.ensures in
    sym (ap parent_list_of (parents-high w g x.l x.p (λ e. c.if-a-eq-NONE.false (first ∙ e)) (omega (arith, first))))

pub returns : goal.returns
returns c =
    let x = c.args in
    let w = width_of x.kind in
    let g = x.graph.now in
    let row = row_in w g x.l x.p in
    let first = first_field w row c.be32-a.ensures c.numbers-part.ensures in
    let second = field w 4 row (omega arith) c.be32-b.ensures c.numbers-part.ensures in
    c.after_first.ensures
    ∙ (ap (λ (b : ℕ). counted_from 1 (after_first g x.l b)) second
    ∙ (sym (counted-first (u32_at row w) (after_first g x.l (u32_at row (w + 4))))
    ∙ sym (ap parent_list_of (parents-some w g x.l x.p (λ e. c.if-a-eq-NONE.false (first ∙ e)) (omega (arith, first))))))
