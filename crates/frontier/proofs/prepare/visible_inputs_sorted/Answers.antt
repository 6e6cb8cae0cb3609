-- `prepare::visible_inputs_sorted` meets its contract: after i turns the first i slots of the queue's places stand by rising id. What is left of them grows fewer. Assumes nothing.
-- HEAD-END
use mathlib.Core.Path.{refl}
use Rattle.frontier.proofs.Collect.{collect_first, collect_next, collect_last}
use Rattle.hash.specs.Bytes.{width_of}
use Rattle.frontier.proofs.prepare.visible_inputs_sorted.Goals as goal

-- src/prepare.rt:28:5
pub loop-i-init : goal.loop-i-init
loop-i-init c = let x = c.args in (refl, collect_first (width_of x.kind) x.names.now x.line.now x.q x.from _)

-- src/prepare.rt:28:5
pub loop-i-preserved : goal.loop-i-preserved
loop-i-preserved c = (c.loop-i.invariant.0, collect_next c.loop-i.invariant.1 c.loop-i-test.true c.loop-i.invariant.0 c.slot_at-slot.ensures c.insert_by_id.ensures)

-- src/prepare.rt:23:1
pub shape_of-line : goal.shape_of-line
shape_of-line c = c.loop-i.invariant.1.long

-- src/prepare.rt:23:1
pub returns : goal.returns
returns c = collect_last c.loop-i.invariant.1 c.loop-i-test.false c.loop-i.invariant.0
