-- `graphwrite::rows::put_edges` meets its contract: after parent j the entries before it stand there. Assumes nothing.
use mathlib.Core.Path.{◌≡◌}
use Prim.Native.Nat.{◌+◌, ◌*◌, ◌-◌, ◌≤◌}
use lib.ListN.{length}
use Rattle.hash.specs.Bytes.{width_of}
use Rattle.graphplan.specs.StoreRows.{row_of}
use Rattle.graphfile.specs.GraphFile.{words, edges_of}
use Rattle.graphbytes.proofs.Fill.{Filled}
use Rattle.graphwrite.proofs.rows.put_edges.Given as goal

abbrev pub invariant-loop-j : goal.invariant-loop-j
invariant-loop-j l = (1 ≤ l.j) × (l.j ≤ l.c) × (l.q ≡ l.p + 4 * (l.j - 1)) × (length l.out ≡ length l.initial.out) × Filled l.initial.out l.out l.p (words (edges_of (row_of (width_of l.kind) l.store l.k).parents)) (l.j - 1)

abbrev pub decreases-loop-j : goal.decreases-loop-j
decreases-loop-j l = l.c - l.j
