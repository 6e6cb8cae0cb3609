-- `prepare::visible_inputs_sorted` meets its contract: after i turns the first i slots of the queue's places stand by rising id. What is left of them grows fewer. Assumes nothing.
-- HEAD-END
use mathlib.Core.Path.{◌≡◌}
use Prim.Native.Nat.{◌-◌}
use Rattle.frontier.proofs.Collect.{Collecting}
use Rattle.hash.specs.Bytes.{width_of}
use Rattle.frontier.proofs.prepare.visible_inputs_sorted.Given as goal

abbrev pub invariant-loop-i : goal.invariant-loop-i
invariant-loop-i l = (l.n ≡ l.q.count) × Collecting (width_of l.kind) l.names l.initial.line l.q l.from l.n l.line l.i

abbrev pub decreases-loop-i : goal.decreases-loop-i
decreases-loop-i l = l.n - l.i
