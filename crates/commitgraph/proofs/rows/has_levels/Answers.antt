-- `rows::has_levels` meets its contract. The loop's invariant: none of the first i rows states level 0. Assumes nothing.
use native.Mathlib.Omega.{arith}
use borrow.Author.Rules.{rules}
use mathlib.Core.Path.{◌≡◌, refl, sym, ◌∙◌}
use mathlib.Core.Bool.{true}
use Prim.Native.Nat.{◌≤◌, ◌-◌}
use Rattle.hash.specs.Bytes.{width_of}
use Rattle.commitgraph.specs.Graph.{levelled}
use Rattle.commitgraph.proofs.Levels.{levels-more, levels-none}
use Rattle.commitgraph.proofs.rows.has_levels.Goals as goal

pub loop-i-init : goal.loop-i-init
unfolding levelled
loop-i-init c = (search rules, refl)

pub returns-then-stated_level-eq0 : goal.returns-then-stated_level-eq0
returns-then-stated_level-eq0 c = let x = c.args in
    sym (levels-none (width_of x.kind) x.graph.now x.l x.l.count c.loop-i.i c.loop-i-test.true (sym c.stated_level.ensures ∙ c.if-stated_level-eq0.true))

pub loop-i-preserved : goal.loop-i-preserved
loop-i-preserved c = let x = c.args in
    (search rules, levels-more (width_of x.kind) x.graph.now x.l c.loop-i.i c.loop-i.invariant.1 (λ z. c.if-stated_level-eq0.false (c.stated_level.ensures ∙ z)))

pub returns : goal.returns
returns c = let x = c.args in
    let z : c.loop-i.i ≡ x.l.count = omega arith in
    sym (rw z at c.loop-i.invariant.1)
