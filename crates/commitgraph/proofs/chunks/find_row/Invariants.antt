-- `chunks::find_row` meets its contract. The loop's invariant: none of the first i rows has the id. Assumes nothing.
use Rattle.std.specs.Prelude.{None}
use borrow.Author.Rules.{rules}
use mathlib.Core.Path.{◌≡◌, refl, sym, ◌∙◌}
use Prim.Native.Nat.{◌≤◌, ◌-◌}
use native.Mathlib.Omega.{arith}
use Rattle.commitgraph.specs.Graph.{chunk_in}
use Rattle.commitgraph.proofs.Table.{first_past, first_of_lem, none_of}
use Rattle.commitgraph.proofs.chunks.find_row.Given as goal

abbrev pub invariant-loop-i : goal.invariant-loop-i
invariant-loop-i l = (l.i ≤ l.count) × (chunk_in l.graph l.id l.i ≡ None)

abbrev pub decreases-loop-i : goal.decreases-loop-i
decreases-loop-i l = l.count - l.i
