-- `chunks::offsets_rise` meets its contract. The loop's invariant: the offsets of the first i rows never fall. Assumes nothing.
use native.Mathlib.Omega.{arith}
use borrow.Author.Rules.{rules}
use mathlib.Core.Path.{◌≡◌, refl, sym}
use mathlib.Core.Bool.{true}
use Prim.Native.Nat.{◌≤◌, ◌-◌}
use Rattle.commitgraph.specs.Graph.{offsets_rise}
use Rattle.commitgraph.proofs.Table.{offsets_more, offsets_fall}
use Rattle.commitgraph.proofs.chunks.offsets_rise.Given as goal

abbrev pub invariant-loop-i : goal.invariant-loop-i
invariant-loop-i l = (l.i ≤ l.count) × (offsets_rise l.graph l.i ≡ true)

abbrev pub decreases-loop-i : goal.decreases-loop-i
decreases-loop-i l = l.count - l.i
