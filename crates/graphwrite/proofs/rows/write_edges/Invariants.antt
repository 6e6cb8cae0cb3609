-- `graphwrite::rows::write_edges` meets its contract: after k entries the lists of the first k rows stand there. Assumes nothing.
use mathlib.Core.Path.{◌≡◌}
use Prim.Native.Nat.{◌+◌, ◌*◌, ◌-◌, ◌≤◌}
use lib.ListN.{length}
use Rattle.hash.specs.Bytes.{width_of}
use Rattle.graphfile.proofs.Pieces.{edges_before}
use Rattle.graphplan.specs.StoreRows.{rows_of}
use Rattle.graphbytes.proofs.Lists.{Listed}
use Rattle.graphwrite.proofs.rows.write_edges.Given as goal

abbrev pub invariant-loop-k : goal.invariant-loop-k
invariant-loop-k l = (l.k ≤ l.n) × (l.p ≡ l.from + 4 * edges_before (rows_of (width_of l.kind) l.store) l.k) × (length l.out ≡ length l.initial.out) × Listed l.initial.out l.out l.from (rows_of (width_of l.kind) l.store) l.k

abbrev pub decreases-loop-k : goal.decreases-loop-k
decreases-loop-k l = l.n - l.k
