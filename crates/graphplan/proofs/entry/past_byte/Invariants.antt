-- `graphplan::entry::past_byte` meets its contract: the entries from k up to i begin with bytes of at most x. Assumes nothing.
use Prim.Native.Nat.{ℕ, ◌-◌, ◌≤◌, ◌<◌}
use Rattle.hash.specs.Bytes.{width_of}
use Rattle.graphplan.specs.Entries.{byte_of}
use Rattle.graphplan.proofs.entry.past_byte.Given as goal

abbrev pub invariant-loop-i : goal.invariant-loop-i
invariant-loop-i l = (l.k ≤ l.i) × (l.k ≤ l.n → l.i ≤ l.n) × ((j : ℕ) → l.k ≤ j → j < l.i → byte_of (width_of l.kind) l.store j ≤ l.x)

abbrev pub decreases-loop-i : goal.decreases-loop-i
decreases-loop-i l = l.n - l.i
