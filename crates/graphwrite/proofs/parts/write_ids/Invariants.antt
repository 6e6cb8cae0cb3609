-- `graphwrite::parts::write_ids` meets its contract: after k ids the first k parts stand there. Assumes nothing.
use mathlib.Core.Path.{◌≡◌}
use Prim.Native.Nat.{◌+◌, ◌*◌, ◌-◌, ◌≤◌}
use lib.ListN.{length}
use Rattle.hash.specs.Bytes.{width_of}
use Rattle.graphfile.specs.GraphFile.{ids_in}
use Rattle.graphplan.specs.StoreRows.{rows_of}
use Rattle.graphbytes.proofs.Fill.{Filled}
use Rattle.graphwrite.proofs.parts.write_ids.Given as goal

abbrev pub invariant-loop-k : goal.invariant-loop-k
invariant-loop-k l = (l.k ≤ l.n) × (l.p ≡ l.from + width_of l.kind * l.k) × (length l.out ≡ length l.initial.out) × Filled l.initial.out l.out l.from (ids_in (rows_of (width_of l.kind) l.store)) l.k

abbrev pub decreases-loop-k : goal.decreases-loop-k
decreases-loop-k l = l.n - l.k
