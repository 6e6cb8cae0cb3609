-- `bodyvisit::taking::visit_parents_here` meets its contract: the invariant is its own contract for the parents so far. Assumes nothing.
use mathlib.Core.Path.{◌≡◌}
use lib.ListN.{length}
use Prim.Native.Nat.{◌-◌}
use Rattle.state.specs.Shapes.{waiting_in}
use Rattle.state.specs.Steps.{mem}
use Rattle.links.proofs.Visits.{Sizes}
use Rattle.bodyvisit.proofs.Bodies.{BodyRun}
use Rattle.bodyvisit.proofs.taking.visit_parents_here.Given as goal

abbrev pub invariant-loop-k : goal.invariant-loop-k
invariant-loop-k l = Sizes (mem l.initial.names l.initial.marks l.initial.times l.initial.line) (mem l.names l.marks l.times l.line) × (length l.levels ≡ length l.initial.levels) × BodyRun l.excluded l.settings l.store l.body l.parents l.n l.k (waiting_in l.r l.initial.at) (mem l.initial.names l.initial.marks l.initial.times l.initial.line) (mem l.names l.marks l.times l.line) (waiting_in l.r l.at)

abbrev pub decreases-loop-k : goal.decreases-loop-k
decreases-loop-k l = l.n - l.k
