-- `edges` meets its contract. The loop's invariant: the count of the whole list is that of the entries left, after the first parent and the
-- i entries that were passed. The measure is how many entries may still come. Assumes nothing.
use borrow.Author.Rules.{rules}
use mathlib.Core.Path.{◌≡◌, sym, ◌∙◌, ap}
use Prim.Native.Nat.{◌-◌, ◌≤◌}
use native.Mathlib.Omega.{arith}
use Rattle.commitgraph.specs.Graph.{edges_from, counted_from}
use Rattle.commitgraph.proofs.Edges.{left, left-start, left_end, left_out, left-high, left-last, left-more}
use Rattle.commitgraph.proofs.parents.edges.Goals as goal

pub loop-i-init : goal.loop-i-init
loop-i-init c = (search rules, left-start _ _ _)

pub returns-then-l-from : goal.returns-then-l-from
returns-then-l-from c =
    let x = c.args in
    sym (left_out x.graph.now x.l x.from c.loop-i.i (search rules) c.if-l-from.true) ∙ c.loop-i.invariant.1

pub returns-then-l-wide : goal.returns-then-l-wide
returns-then-l-wide c =
    let x = c.args in
    sym (left-high x.graph.now x.l x.from c.loop-i.i (search rules) (omega (arith, c.edge-v.ensures))) ∙ c.loop-i.invariant.1

pub returns-then-v-ge-TOP : goal.returns-then-v-ge-TOP
returns-then-v-ge-TOP c =
    let x = c.args in
    let e = c.edge-v.ensures in
    sym (left-last x.graph.now x.l x.from c.loop-i.i (search rules) (search rules) (omega (arith, e)) (omega (arith, e))) ∙ c.loop-i.invariant.1

pub loop-i-preserved : goal.loop-i-preserved
loop-i-preserved c =
    let x = c.args in
    let e = c.edge-v.ensures in
    (search rules, sym (left-more x.graph.now x.l x.from c.loop-i.i (search rules) (search rules) (omega (arith, e)) (omega (arith, e))) ∙ c.loop-i.invariant.1)

pub returns : goal.returns
returns c = let x = c.args in
    let n : c.loop-i.i ≡ 255 = omega arith in
    sym (left_end x.graph.now x.l x.from) ∙ (ap (left x.graph.now x.l x.from) (sym n) ∙ c.loop-i.invariant.1)
