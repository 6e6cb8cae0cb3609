-- `rowvisit::ahead::parents_of` meets its contract: a row has at most 48 bytes. Assumes nothing.
use Prim.Native.Nat.{◌+◌}
use native.Mathlib.Omega.{arith}
use Rattle.hash.proofs.Widths.{times-most}
use Rattle.rowvisit.proofs.ahead.parents_of.Goals as goal

pub overflow_mul-result : goal.overflow_mul-result
overflow_mul-result c = omega (arith, times-most (c.width-w.result + 16) 48 c.args.p 4294967295 (omega (arith, c.width-w.ensures.2)) (omega (arith, c.requires)))

pub overflow_add-result-2 : goal.overflow_add-result-2
overflow_add-result-2 c = omega (arith, times-most (c.width-w.result + 16) 48 c.args.p 4294967295 (omega (arith, c.width-w.ensures.2)) (omega (arith, c.requires)), c.width-w.ensures.2)

pub returns : goal.returns
returns c = omega (arith, times-most (c.width-w.result + 16) 48 c.args.p 4294967295 (omega (arith, c.width-w.ensures.2)) (omega (arith, c.requires)), c.width-w.ensures.2)
