-- `tracewire::can_trace` meets its contract: the first slice that is too short makes the whole false. Assumes nothing.
use Prim.Native.Nat.{◌≤◌, ◌<◌}
use native.Mathlib.Omega.{arith}
use lib.ListN.{length}
use borrow.Author.Tests.{le-leb, lt-leb}
use Rattle.hash.specs.Bytes.{width_of}
use Rattle.tracewire.specs.Wire.{room_to_trace}
use Rattle.tracewire.proofs.can_trace.Goals as goal

-- src/lib.rt:18:9
pub returns-then-start-w : goal.returns-then-start-w
unfolding room_to_trace
returns-then-start-w c = let x = c.args in let h : length x.start.now < width_of x.kind = omega (arith, c.width-w.ensures.0, c.if-start-w.true) in rw (lt-leb _ _ h)

-- src/lib.rt:21:9
pub returns-then-id-w : goal.returns-then-id-w
unfolding room_to_trace
returns-then-id-w c = let x = c.args in let w = c.width-w.ensures.0 in let h : width_of x.kind ≤ length x.start.now = omega (arith, w, c.if-start-w.false) in let g : length x.id.now < width_of x.kind = omega (arith, w, c.if-id-w.true) in rw (le-leb _ _ h, lt-leb _ _ g)

-- src/lib.rt:13:1
pub returns : goal.returns
unfolding room_to_trace
returns c = let x = c.args in let w = c.width-w.ensures.0 in let h : width_of x.kind ≤ length x.start.now = omega (arith, w, c.if-start-w.false) in let g : width_of x.kind ≤ length x.id.now = omega (arith, w, c.if-id-w.false) in rw (le-leb _ _ h, le-leb _ _ g)
