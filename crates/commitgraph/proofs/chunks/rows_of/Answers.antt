-- `chunks::rows_of` meets its contract. The loop's invariant: `found` of the first i rows have the id. Assumes nothing.
use native.Mathlib.Omega.{arith}
use borrow.Author.Rules.{rules}
use mathlib.Core.Path.{◌≡◌, refl, sym, ap, ◌∙◌}
use mathlib.Core.Logic.{⊎_elim}
use Prim.Native.Nat.{ℕ, ◌+◌, ◌≤◌, ◌-◌}
use Rattle.commitgraph.specs.Graph.{chunks_of}
use Rattle.commitgraph.proofs.Table.{count-one, count_same}
use Rattle.commitgraph.proofs.chunks.rows_of.Goals as goal

pub loop-i-init : goal.loop-i-init
unfolding chunks_of
loop-i-init c = (search rules, search rules, refl)

pub loop-i-preserved : goal.loop-i-preserved
loop-i-preserved c = let x = c.args in
    let i = c.loop-i.i in
    let e = c.row_id.ensures in
    let v = c.loop-i.invariant in
    ⊎_elim
    (λ w. (search rules, omega arith, w.found-is ∙ ap (λ (n : ℕ). n + 1) v.2 ∙ count-one x.graph.now x.id i (sym e ∙ w.if-row_id-id.true)))
    (λ w. (search rules, omega arith, w.found-is ∙ v.2 ∙ count_same x.graph.now x.id i (λ q. w.if-row_id-id.false (e ∙ q))))
    c.if-row_id-id.branch-raw

pub returns : goal.returns
returns c = let x = c.args in
    let z : c.loop-i.i ≡ x.count = omega arith in
    rw z at c.loop-i.invariant.2
