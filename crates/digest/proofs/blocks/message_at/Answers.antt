-- `digest::blocks::message_at` meets its contract: what lies in the first part, then what lies in the second, set down in zeros. Assumes nothing.
use borrow.Author.Rules.{rules}
use mathlib.Core.Path.{◌≡◌, refl, sym, ◌∙◌, ap}
use native.Mathlib.Omega.{arith}
use Prim.Native.Nat.{ℕ, ◌-◌, ◌≤◌}
use mathlib.Core.List.{List, ◌++◌}
use lib.ListN.{length}
use Rattle.hash.specs.Bytes.{at, set_down}
use Rattle.hash.proofs.Bytes.{length_at_le}
use Rattle.digest.specs.Blocks.{zeros, filled}
use Rattle.digest.proofs.Lists.{down-filled, at_second, filled_two}
use Rattle.digest.proofs.blocks.message_at.Goals as goal

pub returns-then-n-i : goal.returns-then-n-i
returns-then-n-i c = let x = c.args in
    c.set_down.ensures
    ∙ ap (set_down (zeros 64) 0) c.part.ensures
    ∙ down-filled (at x.body.now (x.i - length x.head.now) 64) (length_at_le x.body.now (x.i - length x.head.now) 64)
    ∙ ap filled (sym (at_second x.head.now x.body.now x.i 64 c.if-n-i.true))

pub overflow_sub-k : goal.overflow_sub-k
overflow_sub-k c = let x = c.args in rw c.part-x.ensures (length_at_le x.head.now x.i 64)

pub returns : goal.returns
returns c = let x = c.args in
    filled_two x.head.now x.body.now x.i c.part-x.result.now c.part-2.result.now c.set_down-2.new.out c.set_down-3.new.out (omega (arith, c.if-n-i.false)) c.part-x.ensures c.part-2.ensures c.set_down-2.ensures c.set_down-3.ensures
