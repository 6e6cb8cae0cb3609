-- `rows::has_levels` meets its contract. The loop's invariant: none of the first i rows states level 0. Assumes nothing.
use native.Mathlib.Omega.{arith}
use borrow.Author.Rules.{rules}
use mathlib.Core.Path.{◌≡◌, refl, sym, ◌∙◌}
use mathlib.Core.Bool.{true}
use Prim.Native.Nat.{◌≤◌, ◌-◌}
use Rattle.hash.specs.Bytes.{width_of}
use Rattle.commitgraph.specs.Graph.{levelled}
use Rattle.commitgraph.proofs.Levels.{levels-more, levels-none}
use Rattle.commitgraph.proofs.rows.has_levels.Given as goal

abbrev pub invariant-loop-i : goal.invariant-loop-i
invariant-loop-i l = (l.i ≤ l.n) × (levelled (width_of l.kind) l.graph l.l l.i ≡ true)

abbrev pub decreases-loop-i : goal.decreases-loop-i
decreases-loop-i l = l.n - l.i
