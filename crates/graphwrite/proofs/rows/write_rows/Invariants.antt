-- `graphwrite::rows::write_rows` meets its contract: after k rows the first k parts stand there, and e counts their entries of EDGE. Assumes nothing.
use mathlib.Core.Path.{◌≡◌}
use Prim.Native.Nat.{◌+◌, ◌*◌, ◌-◌, ◌≤◌}
use lib.ListN.{length}
use Rattle.hash.specs.Bytes.{width_of}
use Rattle.graphplan.specs.StoreRows.{rows_of}
use Rattle.commitgraph.specs.Graph.{row_size}
use Rattle.graphfile.specs.GraphFile.{data_from}
use Rattle.graphfile.proofs.Pieces.{edges_before}
use Rattle.graphbytes.proofs.Fill.{Filled}
use Rattle.graphwrite.proofs.rows.write_rows.Given as goal

abbrev pub invariant-loop-k : goal.invariant-loop-k
invariant-loop-k l = (l.k ≤ l.n) × (l.p ≡ l.from + row_size (width_of l.kind) * l.k) × (l.e ≡ edges_before (rows_of (width_of l.kind) l.store) l.k) × (length l.out ≡ length l.initial.out) × Filled l.initial.out l.out l.from (data_from 0 (rows_of (width_of l.kind) l.store)) l.k

abbrev pub decreases-loop-k : goal.decreases-loop-k
decreases-loop-k l = l.n - l.k
