-- `graphwrite::parts::write_fan` meets its contract: each byte's count is where the ids pass it. Assumes nothing.
use mathlib.Core.Path.{◌≡◌}
use Prim.Native.Nat.{ℕ, ◌-◌, ◌≤◌, ◌<◌}
use lib.ListN.{length}
use Rattle.hash.specs.Bytes.{width_of}
use Rattle.graphfile.specs.GraphFile.{words, fan_from}
use Rattle.graphplan.specs.StoreRows.{rows_of}
use Rattle.graphplan.specs.Entries.{byte_of}
use Rattle.graphbytes.proofs.Fill.{Filled}
use Rattle.graphwrite.proofs.parts.write_fan.Given as goal

abbrev pub invariant-loop-i : goal.invariant-loop-i
invariant-loop-i l = (l.i ≤ 256) × (l.k ≤ l.n) × (length l.out ≡ length l.initial.out) × ((j : ℕ) → j < l.k → byte_of (width_of l.kind) l.store j < l.i) × Filled l.initial.out l.out l.from (words (fan_from (rows_of (width_of l.kind) l.store) 0 256)) l.i

abbrev pub decreases-loop-i : goal.decreases-loop-i
decreases-loop-i l = 256 - l.i
