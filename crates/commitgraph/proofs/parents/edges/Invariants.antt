-- `edges` meets its contract. The loop's invariant: the count of the whole list is that of the entries left, after the first parent and the
-- i entries that were passed. The measure is how many entries may still come. Assumes nothing.
use borrow.Author.Rules.{rules}
use mathlib.Core.Path.{◌≡◌, sym, ◌∙◌, ap}
use Prim.Native.Nat.{◌-◌, ◌≤◌}
use native.Mathlib.Omega.{arith}
use Rattle.commitgraph.specs.Graph.{edges_from, counted_from}
use Rattle.commitgraph.proofs.Edges.{left, left-start, left_end, left_out, left-high, left-last, left-more}
use Rattle.commitgraph.proofs.parents.edges.Given as goal

abbrev pub invariant-loop-i : goal.invariant-loop-i
invariant-loop-i l = (l.i ≤ 255) × (left l.graph l.l l.from l.i ≡ counted_from 1 (edges_from l.graph l.l 255 l.from))

abbrev pub decreases-loop-i : goal.decreases-loop-i
decreases-loop-i l = 255 - l.i
