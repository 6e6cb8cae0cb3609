-- `object::wrong_in` meets its contract: none is wrong just where all the bytes that were tested are digits. Assumes nothing.
use Prim.Native.Nat.{◌*◌}
use borrow.Author.Rules.{rules}
use Prim.Native.Nat.{◌+◌, ◌-◌}
use native.Mathlib.Omega.{arith}
use lib.ListN.{get_or}
use Rattle.object.proofs.Digits.{Tested, tested_start, tested_more, tested_all, at_most}
use Rattle.object.proofs.wrong_in.Goals as goal

pub loop-i-init : goal.loop-i-init
loop-i-init c = tested_start _ _ _

pub overflow_add-wrong : goal.overflow_add-wrong
overflow_add-wrong c =
    let x = c.args in
    omega (arith, c.requires.w_bound, c.loop-i.invariant.within, c.loop-i.invariant.few, c.wrong_digit-wrong.ensures, at_most (get_or x.body.now (x.at + c.loop-i.i) 0))

pub loop-i-preserved : goal.loop-i-preserved
loop-i-preserved c = tested_more c.loop-i.invariant (search rules) c.wrong_digit-wrong.ensures

pub returns : goal.returns
returns c = tested_all c.loop-i.invariant (search rules) c.requires.w_in_bounds
