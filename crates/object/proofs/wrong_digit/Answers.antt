-- `object::wrong_digit` meets its contract: each range of bytes has one value or none. Assumes nothing.
use native.Mathlib.Omega.{arith}
use Rattle.object.proofs.Digits.{figure, letter, below, between, above}
use Rattle.object.proofs.wrong_digit.Goals as goal

pub returns-then-x-lt48 : goal.returns-then-x-lt48
returns-then-x-lt48 c = omega (arith, below c.args.x c.if-x-lt48.true)

pub returns-then-x-le57 : goal.returns-then-x-le57
returns-then-x-le57 c = omega (arith, figure c.args.x (omega arith) c.if-x-le57.true)

pub returns-then-x-lt97 : goal.returns-then-x-lt97
returns-then-x-lt97 c = omega (arith, between c.args.x (omega arith) (omega arith))

pub returns-then-x-le102 : goal.returns-then-x-le102
returns-then-x-le102 c = omega (arith, letter c.args.x (omega arith) c.if-x-le102.true)

pub returns : goal.returns
returns c = omega (arith, above c.args.x (omega arith))
