-- `bodyvisit::taking::visit_parent_here` meets its contract: the id is the header's, as it was set down or in its line, and its seconds are in the store.
-- Assumes nothing.
use native.Mathlib.Omega.{arith}
use Rattle.bodyvisit.proofs.Bodies.{line-parent, down-parent}
use Rattle.bodyvisit.proofs.taking.visit_parent_here.Goals as goal

pub returns-then-parents-parents_room : goal.returns-then-parents-parents_room
returns-then-parents-parents_room c = line-parent c.insert_into_seen_and_queue_stored.ensures c.body_parent-id.ensures c.id_slice.ensures

pub returns : goal.returns
returns c = down-parent c.insert_into_seen_and_next_or_queue_stored.ensures (omega (arith, c.if-parents-parents_room.false, c.parents_room.ensures)) c.nth.ensures
