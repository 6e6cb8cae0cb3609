-- `mergewire::can_part` meets its contract: the first slice that is too short makes the whole false. Assumes nothing.
use Prim.Native.Nat.{◌≤◌, ◌<◌}
use native.Mathlib.Omega.{arith}
use lib.ListN.{length}
use borrow.Author.Tests.{le-leb, lt-leb}
use Rattle.hash.specs.Bytes.{width_of}
use Rattle.mergewire.specs.Wire.{room_to_part}
use Rattle.mergewire.proofs.can_part.Goals as goal

pub returns-then-one-w : goal.returns-then-one-w
unfolding room_to_part
returns-then-one-w c = let h : length c.args.one.now < width_of c.args.kind = omega (arith, c.width-w.ensures.0, c.if-one-w.true) in
    rw (lt-leb _ _ h)

pub returns-then-other-w : goal.returns-then-other-w
unfolding room_to_part
returns-then-other-w c = let w = c.width-w.ensures.0 in
    let h : width_of c.args.kind ≤ length c.args.one.now = omega (arith, w) in
    let g : length c.args.other.now < width_of c.args.kind = omega (arith, w, c.if-other-w.true) in
    rw (le-leb _ _ h, lt-leb _ _ g)

pub returns-then-id-w : goal.returns-then-id-w
unfolding room_to_part
returns-then-id-w c = let w = c.width-w.ensures.0 in
    let h : width_of c.args.kind ≤ length c.args.one.now = omega (arith, w) in
    let g : width_of c.args.kind ≤ length c.args.other.now = omega (arith, w) in
    let f : length c.args.id.now < width_of c.args.kind = omega (arith, w, c.if-id-w.true) in
    rw (le-leb _ _ h, le-leb _ _ g, lt-leb _ _ f)

pub returns : goal.returns
unfolding room_to_part
returns c = let w = c.width-w.ensures.0 in
    let h : width_of c.args.kind ≤ length c.args.one.now = omega (arith, w) in
    let g : width_of c.args.kind ≤ length c.args.other.now = omega (arith, w) in
    let f : width_of c.args.kind ≤ length c.args.id.now = omega (arith, w) in
    rw (le-leb _ _ h, le-leb _ _ g, le-leb _ _ f)
