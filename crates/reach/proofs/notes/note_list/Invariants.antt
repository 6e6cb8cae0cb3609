-- `notes::note_list` meets its contract: after i turns the first i ids of the list are noted. What is left of the list grows shorter. Assumes nothing.
use Prim.Native.Nat.{◌-◌}
use Rattle.walk.specs.Opening.{list_ids}
use Rattle.reach.specs.Memory.{lent}
use Rattle.reach.proofs.Noting.{Listing}
use Rattle.hash.specs.Bytes.{width_of}
use Rattle.reach.proofs.notes.note_list.Given as goal

abbrev pub invariant-loop-i : goal.invariant-loop-i
invariant-loop-i l = Listing (width_of l.kind) l.second l.cap l.from (lent l.initial.names l.initial.marks l.initial.line) (lent l.names l.marks l.line) l.initial.r (list_ids (width_of l.kind) l.list) l.i l.r

abbrev pub decreases-loop-i : goal.decreases-loop-i
decreases-loop-i l = l.count - l.i
