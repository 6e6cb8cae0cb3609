-- `chunks::fan_parts` meets its contract. The loop's invariant: the entries before entry b part the ids. The fan-out never falls, so none of
-- them is above the last, which is N. Assumes nothing.
use mathlib.Core.Path.{refl}
use Prim.Native.Nat.{ℕ, ◌-◌, ◌≤◌, ◌<◌}
use native.Mathlib.Omega.{arith}
use borrow.Author.Tests.{not-true, not-false}
use Rattle.hash.proofs.Tests.{clash}
use Rattle.commitgraph.specs.Graph.{Parts}
use Rattle.commitgraph.proofs.Table.{graph-count}
use Rattle.commitgraph.proofs.Fan.{entries_le, parts_more}
use borrow.Author.Rules.{rules}
use Rattle.commitgraph.proofs.chunks.fan_parts.Given as goal

abbrev pub invariant-loop-b : goal.invariant-loop-b
invariant-loop-b l = (l.b ≤ 256) × ((j : ℕ) → j < l.b → Parts l.w l.graph j)

abbrev pub decreases-loop-b : goal.decreases-loop-b
decreases-loop-b l = 256 - l.b
