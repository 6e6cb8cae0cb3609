-- `rowvisit::plain::visit_plain_parents` meets its contract: the invariant is its own contract for the parents so far. Assumes nothing.
use Rattle.links.proofs.Visits.{Lengths}
use Rattle.rowvisit.proofs.Rows.{RowRun}
use mathlib.Core.Path.{◌≡◌}
use Prim.Native.Nat.{◌-◌, ◌≤◌}
use lib.ListN.{length}
use Rattle.state.specs.Shapes.{waiting_in}
use Rattle.state.specs.Steps.{mem}
use Rattle.rowvisit.proofs.plain.visit_plain_parents.Given as goal

abbrev pub invariant-loop-k : goal.invariant-loop-k
invariant-loop-k l = (l.k ≤ l.n) × (length l.levels ≡ length l.initial.levels) × Lengths l.initial.names l.initial.marks l.initial.times l.initial.line l.initial.parents l.names l.marks l.times l.line l.parents × RowRun l.excluded l.settings l.graph l.l l.position l.k (waiting_in l.r l.initial.at) (mem l.initial.names l.initial.marks l.initial.times l.initial.line) (mem l.names l.marks l.times l.line) l.initial.parents l.parents (waiting_in l.r l.at)

abbrev pub decreases-loop-k : goal.decreases-loop-k
decreases-loop-k l = l.n - l.k
