-- `chunks::fan_parts` meets its contract. The loop's invariant: the entries before entry b part the ids. The fan-out never falls, so none of
-- them is above the last, which is N. Assumes nothing.
use mathlib.Core.Path.{refl}
use Prim.Native.Nat.{ℕ, ◌-◌, ◌≤◌, ◌<◌}
use native.Mathlib.Omega.{arith}
use borrow.Author.Tests.{not-true, not-false}
use Rattle.hash.proofs.Tests.{clash}
use Rattle.commitgraph.specs.Graph.{Parts}
use Rattle.commitgraph.proofs.Table.{graph-count}
use Rattle.commitgraph.proofs.Fan.{entries_le, parts_more}
use borrow.Author.Rules.{rules}
use Rattle.commitgraph.proofs.chunks.fan_parts.Goals as goal

pub loop-b-init : goal.loop-b-init
loop-b-init c = (search rules, λ j l. absurd (omega arith))

pub parts_at-requires : goal.parts_at-requires
parts_at-requires c =
    let g = c.args.graph.now in
    (c.requires.0, c.requires.1, c.requires.2, c.requires.3, c.requires.4, c.requires.5, c.loop-b-test.true, omega (arith, entries_le g c.requires.6 c.loop-b.b 255 (omega arith) (omega arith), graph-count g, c.requires.3))

pub returns-then-not-parts_at : goal.returns-then-not-parts_at
returns-then-not-parts_at c = (λ e. clash e refl, λ e. c.parts_at.ensures.1 c.if-not-parts_at.true)

pub loop-b-preserved : goal.loop-b-preserved
loop-b-preserved c =
    let x = c.args in
    (search rules, parts_more x.w x.graph.now c.loop-b.b c.loop-b.invariant.1 (c.parts_at.ensures.0 c.if-not-parts_at.false))

pub returns : goal.returns
returns c = (λ e j l. c.loop-b.invariant.1 j (omega arith), λ e. clash refl e)
