-- `wire::either` meets its contract: the bits of either and the bits of both make the sum, and those of both are no more than each word. Assumes nothing.
use native.Mathlib.Omega.{arith}
use lib.Bits.{or_add_and, and_le_l, and_le_r}
use Rattle.wire.proofs.either.Goals as goal

pub returns : goal.returns
returns c = let x = c.args in
    let sum = or_add_and x.x x.y in
    let a = and_le_l x.x x.y in
    let b = and_le_r x.x x.y in
    (omega (arith, sum, b), omega (arith, sum, a))
