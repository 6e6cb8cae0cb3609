-- `cells::clear_cells` meets its contract: after k turns the first k numbers are 0 and the others as they were. Assumes nothing.
use mathlib.Core.Path.{◌≡◌}
use Prim.Native.Nat.{◌-◌, ◌≤◌}
use lib.ListN.{length}
use Rattle.hashtable.specs.Table.{cleared}
use Rattle.falling.proofs.cells.clear_cells.Given as goal

abbrev pub invariant-loop-k : goal.invariant-loop-k
invariant-loop-k l = (l.k ≤ l.n) × (length l.line ≡ length l.initial.line) × (l.line ≡ cleared l.k l.initial.line)

abbrev pub decreases-loop-k : goal.decreases-loop-k
decreases-loop-k l = length l.initial.line - l.k
