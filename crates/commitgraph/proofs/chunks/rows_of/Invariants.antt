-- `chunks::rows_of` meets its contract. The loop's invariant: `found` of the first i rows have the id. Assumes nothing.
use native.Mathlib.Omega.{arith}
use borrow.Author.Rules.{rules}
use mathlib.Core.Path.{◌≡◌, refl, sym, ap, ◌∙◌}
use mathlib.Core.Logic.{⊎_elim}
use Prim.Native.Nat.{ℕ, ◌+◌, ◌≤◌, ◌-◌}
use Rattle.commitgraph.specs.Graph.{chunks_of}
use Rattle.commitgraph.proofs.Table.{count-one, count_same}
use Rattle.commitgraph.proofs.chunks.rows_of.Given as goal

abbrev pub invariant-loop-i : goal.invariant-loop-i
invariant-loop-i l = (l.i ≤ l.count) × (l.found ≤ l.i) × (l.found ≡ chunks_of l.graph l.id l.i)

abbrev pub decreases-loop-i : goal.decreases-loop-i
decreases-loop-i l = l.count - l.i
