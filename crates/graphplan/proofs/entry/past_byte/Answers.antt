-- `graphplan::entry::past_byte` meets its contract: the entries from k up to i begin with bytes of at most x. Assumes nothing.
use native.Mathlib.Omega.{arith}
use Rattle.hash.specs.Bytes.{width_of}
use Rattle.graphplan.specs.Entries.{byte_of}
use Rattle.graphplan.proofs.Fans.{below_next}
use Rattle.graphplan.proofs.entry.past_byte.Goals as goal

pub loop-i-init : goal.loop-i-init
loop-i-init c = (omega arith, λ h. h, λ j a b. absurd (omega arith))

pub returns-then-x-first_byte : goal.returns-then-x-first_byte
returns-then-x-first_byte c =
    record { from = λ h. c.loop-i.invariant.0; to = c.loop-i.invariant.1; low = c.loop-i.invariant.2; stop = λ h. omega (arith, c.if-x-first_byte.true, c.first_byte.ensures) }

pub loop-i-preserved : goal.loop-i-preserved
loop-i-preserved c = let x = c.args in
    (omega (arith, c.loop-i.invariant.0), λ h. omega (arith, c.loop-i-test.true), below_next (byte_of (width_of x.kind) x.store.now) x.k c.loop-i.i x.x c.loop-i.invariant.2 (omega (arith, c.if-x-first_byte.false, c.first_byte.ensures)))

pub returns : goal.returns
returns c =
    record { from = λ h. h; to = λ h. omega arith; low = λ j a h. c.loop-i.invariant.2 j a (omega (arith, c.loop-i-test.false)); stop = λ h. absurd (omega arith) }
