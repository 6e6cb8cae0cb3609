-- `reportwire::can_feed` meets its contract: the first slice that is too short makes the whole false. Assumes nothing.
use Prim.Native.Nat.{◌≤◌}
use native.Mathlib.Omega.{arith}
use lib.ListN.{length}
use borrow.Author.Tests.{le-leb, lt-leb}
use Rattle.reportwire.specs.Feed.{room_for_feed}
use Rattle.reportwire.proofs.can_feed.Goals as goal

pub returns-then-numbers-lt-FEED_NUMBERS : goal.returns-then-numbers-lt-FEED_NUMBERS
unfolding room_for_feed
returns-then-numbers-lt-FEED_NUMBERS c = rw (lt-leb _ _ c.if-numbers-lt-FEED_NUMBERS.true)

pub returns : goal.returns
unfolding room_for_feed
returns c = let h : 6 ≤ length c.args.numbers.now = omega (arith, c.if-numbers-lt-FEED_NUMBERS.false) in
    rw (le-leb _ _ h)
