-- `wire::can_open` meets its contract: the first slice that is too short makes the whole false. Assumes nothing.
use Prim.Native.Nat.{◌≤◌}
use native.Mathlib.Omega.{arith}
use lib.ListN.{length}
use borrow.Author.Tests.{le-leb, lt-leb}
use Rattle.wire.specs.Words.{room_to_open}
use Rattle.wire.proofs.can_open.Goals as goal

pub returns-then-words-lt-RECORD_WORDS : goal.returns-then-words-lt-RECORD_WORDS
unfolding room_to_open
returns-then-words-lt-RECORD_WORDS c = rw (lt-leb _ _ c.if-words-lt-RECORD_WORDS.true)

pub returns : goal.returns
unfolding room_to_open
returns c = let h : 20 ≤ length c.args.words.now = omega arith in rw (le-leb _ _ h)
