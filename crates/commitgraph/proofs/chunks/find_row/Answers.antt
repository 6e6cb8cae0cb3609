-- `chunks::find_row` meets its contract. The loop's invariant: none of the first i rows has the id. Assumes nothing.
use Rattle.std.specs.Prelude.{None}
use borrow.Author.Rules.{rules}
use mathlib.Core.Path.{◌≡◌, refl, sym, ◌∙◌}
use Prim.Native.Nat.{◌≤◌, ◌-◌}
use native.Mathlib.Omega.{arith}
use Rattle.commitgraph.specs.Graph.{chunk_in}
use Rattle.commitgraph.proofs.Table.{first_past, first_of_lem, none_of}
use Rattle.commitgraph.proofs.chunks.find_row.Goals as goal

pub loop-i-init : goal.loop-i-init
unfolding chunk_in
loop-i-init c = (search rules, refl)

pub returns-then-row_id-id : goal.returns-then-row_id-id
returns-then-row_id-id c =
    first_of_lem _ _ c.loop-i.i _ c.loop-i-test.true c.loop-i.invariant.1 (sym c.row_id.ensures ∙ c.if-row_id-id.true)

pub loop-i-preserved : goal.loop-i-preserved
loop-i-preserved c =
    (search rules, first_past _ _ c.loop-i.i c.loop-i.invariant.1 (λ e. c.if-row_id-id.false (c.row_id.ensures ∙ e)))

pub returns : goal.returns
returns c = let x = c.args in
    let z : c.loop-i.i ≡ x.count = omega arith in
    none_of x.graph.now x.id x.count (rw z at c.loop-i.invariant.1)
