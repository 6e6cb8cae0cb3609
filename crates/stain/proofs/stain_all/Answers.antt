-- `stain_all` meets its contract: after i turns the commits of the first i places have stained their parents. Places that are left grow less. Assumes nothing.
use Rattle.stain.proofs.Staining.{lining_first, lining_next, lining_last}
use Rattle.hash.specs.Bytes.{width_of}
use Rattle.stain.proofs.stain_all.Goals as goal

pub loop-i-init : goal.loop-i-init
loop-i-init c = let x = c.args in lining_first (width_of x.kind) x.store.now _ x.levels.now x.cap x.n

pub loop-i-preserved : goal.loop-i-preserved
loop-i-preserved c = lining_next c.loop-i.invariant c.loop-i-test.true c.slot_at-slot.ensures c.stain_at.ensures c.stain_at.auto.levels

pub shape_of-levels : goal.shape_of-levels
shape_of-levels c = c.loop-i.invariant.long

pub returns : goal.returns
returns c = lining_last c.loop-i.invariant c.loop-i-test.false
