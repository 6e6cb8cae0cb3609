-- `object::hex_value` meets its contract: a digit stands in one of the two ranges. Assumes nothing.
use mathlib.Core.Path.{sym}
use native.Mathlib.Omega.{arith}
use Rattle.object.proofs.Digits.{figure, letter, not-below, not-between, not-above}
use Rattle.object.proofs.hex_value.Goals as goal

pub overflow_sub-result : goal.overflow_sub-result
overflow_sub-result c = not-below c.args.x c.requires

pub overflow_sub-result-else-x-le57 : goal.overflow_sub-result-else-x-le57
overflow_sub-result-else-x-le57 c = omega (arith, not-between c.args.x c.requires (omega arith))

pub returns-then-x-le57 : goal.returns-then-x-le57
returns-then-x-le57 c = let x = c.args.x in sym (figure x (not-below x c.requires) c.if-x-le57.true)

pub returns-else-x-le57 : goal.returns-else-x-le57
returns-else-x-le57 c = let x = c.args.x in sym (letter x (not-between x c.requires (omega arith)) (not-above x c.requires))
