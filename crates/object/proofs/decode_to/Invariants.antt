-- `object::decode_to` meets its contract: the bytes decoded so far stand before what the digits that are left decode to, and before what stood there.
-- Assumes nothing.
use borrow.Author.Rules.{rules}
use Prim.Native.Nat.{◌-◌}
use native.Mathlib.Omega.{arith}
use Rattle.object.proofs.Digits.{Decoded, decoded_start, decoded_more, decoded_all, high_digit, low_digit}
use Rattle.object.proofs.decode_to.Given as goal

abbrev pub invariant-loop-i : goal.invariant-loop-i
invariant-loop-i l = Decoded l.w l.body l.at l.initial.out l.out l.i

abbrev pub decreases-loop-i : goal.decreases-loop-i
decreases-loop-i l = l.w - l.i
