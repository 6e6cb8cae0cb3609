-- `cells::all_low` meets its contract: after k turns the first k pairs lie below their cells. What is left grows less. Assumes nothing.
use Rattle.falling.proofs.Lowest.{low_first, low-next, low-stop, low-last}
use Rattle.falling.proofs.cells.all_low.Goals as goal

pub loop-k-init : goal.loop-k-init
loop-k-init c = let x = c.args in low_first x.line.now x.levels.now x.times.now x.from x.n

pub returns-then-not-is_low : goal.returns-then-not-is_low
returns-then-not-is_low c = low-stop c.loop-k.invariant c.loop-k-test.true c.slot_after.ensures c.is_low.ensures c.if-not-is_low.true

pub loop-k-preserved : goal.loop-k-preserved
loop-k-preserved c = low-next c.loop-k.invariant c.loop-k-test.true c.slot_after.ensures c.is_low.ensures c.if-not-is_low.false

pub returns : goal.returns
returns c = low-last c.loop-k.invariant c.loop-k-test.false
