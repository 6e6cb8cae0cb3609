-- `place_by_id` meets its contract: the slots in front of place i have ids below the new one's, so it goes in among the rest. Assumes nothing.
use Rattle.pending.specs.Pending.{not_above}
use Rattle.pending.proofs.Inserts.{Passed}
use Rattle.hash.specs.Bytes.{width_of}
use Rattle.pending.proofs.place_by_id.Given as goal

abbrev pub invariant-loop-i : goal.invariant-loop-i
invariant-loop-i l = Passed (not_above (width_of l.kind) l.names) l.line l.from l.to l.slot l.i
