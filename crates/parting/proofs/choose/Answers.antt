-- `choose` meets its contract: after i turns the choice is that among the first i places. Places that are left grow less. Assumes nothing.
use Rattle.parting.proofs.Choosing.{choosing_first, choosing_next, choosing_last}
use Rattle.hash.specs.Bytes.{width_of}
use Rattle.parting.proofs.choose.Goals as goal

pub loop-i-init : goal.loop-i-init
loop-i-init c = let x = c.args in choosing_first (width_of x.kind) x.store.now x.names.now x.marks.now x.levels.now x.line.now x.n

pub loop-i-preserved : goal.loop-i-preserved
loop-i-preserved c = choosing_next c.loop-i.invariant c.loop-i-test.true c.slot_at-slot.ensures c.choose_next-r.ensures

pub returns : goal.returns
returns c = choosing_last c.loop-i.invariant c.loop-i-test.false
