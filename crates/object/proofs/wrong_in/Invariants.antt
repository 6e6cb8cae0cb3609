-- `object::wrong_in` meets its contract: none is wrong just where all the bytes that were tested are digits. Assumes nothing.
use Prim.Native.Nat.{◌*◌}
use borrow.Author.Rules.{rules}
use Prim.Native.Nat.{◌+◌, ◌-◌}
use native.Mathlib.Omega.{arith}
use lib.ListN.{get_or}
use Rattle.object.proofs.Digits.{Tested, tested_start, tested_more, tested_all, at_most}
use Rattle.object.proofs.wrong_in.Given as goal

abbrev pub invariant-loop-i : goal.invariant-loop-i
invariant-loop-i l = Tested l.w l.body l.at l.wrong l.i

abbrev pub decreases-loop-i : goal.decreases-loop-i
decreases-loop-i l = 2 * l.w - l.i
