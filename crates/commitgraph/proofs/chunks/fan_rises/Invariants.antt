-- `chunks::fan_rises` meets its contract. The loop's invariant: none of the first i entries is above the next. Assumes nothing.
use borrow.Author.Rules.{rules}
use mathlib.Core.Path.{refl}
use Prim.Native.Nat.{ℕ, suc, ◌-◌, ◌≤◌, ◌<◌}
use native.Mathlib.Omega.{arith}
use Rattle.hash.proofs.Tests.{clash}
use Rattle.commitgraph.specs.Graph.{fan_at}
use Rattle.commitgraph.proofs.Fan.{rises-more, fan_falls}
use Rattle.commitgraph.proofs.chunks.fan_rises.Given as goal

abbrev pub invariant-loop-i : goal.invariant-loop-i
invariant-loop-i l = (l.i ≤ 255) × ((j : ℕ) → j < l.i → fan_at l.graph j ≤ fan_at l.graph (suc j))

abbrev pub decreases-loop-i : goal.decreases-loop-i
decreases-loop-i l = 255 - l.i
