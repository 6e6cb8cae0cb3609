-- `chunks::fan_rises` meets its contract. The loop's invariant: none of the first i entries is above the next. Assumes nothing.
use borrow.Author.Rules.{rules}
use mathlib.Core.Path.{refl}
use Prim.Native.Nat.{ℕ, suc, ◌-◌, ◌≤◌, ◌<◌}
use native.Mathlib.Omega.{arith}
use Rattle.hash.proofs.Tests.{clash}
use Rattle.commitgraph.specs.Graph.{fan_at}
use Rattle.commitgraph.proofs.Fan.{rises-more, fan_falls}
use Rattle.commitgraph.proofs.chunks.fan_rises.Goals as goal

pub loop-i-init : goal.loop-i-init
loop-i-init c = (search rules, λ j l. absurd (omega arith))

pub returns-then-fan_entry : goal.returns-then-fan_entry
returns-then-fan_entry c = let g = c.args.graph.now in
    (λ e. clash e refl, λ e. fan_falls c.args.w g c.loop-i.i c.loop-i-test.true (rw (c.fan_entry.ensures, c.fan_entry-in-loop-i.ensures) at c.if-fan_entry.true))

pub loop-i-preserved : goal.loop-i-preserved
loop-i-preserved c = let g = c.args.graph.now in
    (search rules, rises-more g c.loop-i.i c.loop-i.invariant.1 (rw (c.fan_entry.ensures, c.fan_entry-in-loop-i.ensures) at c.if-fan_entry.false))

pub returns : goal.returns
returns c = (λ e i l. c.loop-i.invariant.1 i (omega arith), λ e. clash refl e)
