-- `wire::can_call` meets its contract: the first slice that is too short makes the whole false. Assumes nothing.
use Prim.Native.Nat.{◌≤◌, ◌<◌}
use native.Mathlib.Omega.{arith}
use lib.ListN.{length}
use borrow.Author.Tests.{le-leb, lt-leb}
use Rattle.hash.specs.Bytes.{width_of}
use Rattle.wire.specs.Words.{room_to_call}
use borrow.Author.Rules.{rules}
use Rattle.wire.proofs.can_call.Goals as goal

pub returns-then-words-lt-RECORD_WORDS : goal.returns-then-words-lt-RECORD_WORDS
unfolding room_to_call
returns-then-words-lt-RECORD_WORDS c = rw (lt-leb _ _ c.if-words-lt-RECORD_WORDS.true)

pub returns-then-id-width : goal.returns-then-id-width
unfolding room_to_call
returns-then-id-width c = let h : 20 ≤ length c.args.words.now = omega arith in
    let g : length c.args.id.now < width_of c.args.kind = omega (arith, c.width.ensures.0, c.if-id-width.true) in
    rw (le-leb _ _ h, lt-leb _ _ g)

pub returns-then-numbers-lt-CALL_NUMBERS : goal.returns-then-numbers-lt-CALL_NUMBERS
unfolding room_to_call
returns-then-numbers-lt-CALL_NUMBERS c = let h : 20 ≤ length c.args.words.now = omega arith in
    let g : width_of c.args.kind ≤ length c.args.id.now = omega (arith, c.width.ensures.0) in
    rw (le-leb _ _ h, le-leb _ _ g, lt-leb _ _ c.if-numbers-lt-CALL_NUMBERS.true)

pub returns : goal.returns
unfolding room_to_call
returns c = let h : 20 ≤ length c.args.words.now = omega arith in
    let g : width_of c.args.kind ≤ length c.args.id.now = omega (arith, c.width.ensures.0) in
    let f : 8 ≤ length c.args.numbers.now = omega arith in
    rw (le-leb _ _ h, le-leb _ _ g, le-leb _ _ f)
