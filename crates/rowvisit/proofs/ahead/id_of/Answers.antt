-- `rowvisit::ahead::id_of` meets its contract: an id has at most 32 bytes. Assumes nothing.
use native.Mathlib.Omega.{arith}
use Rattle.hash.proofs.Widths.{times-most}
use Rattle.rowvisit.proofs.ahead.id_of.Goals as goal

pub overflow_mul-result : goal.overflow_mul-result
overflow_mul-result c = omega (arith, times-most c.width.result 32 c.args.p 4294967295 c.width.ensures.2 (omega (arith, c.requires)))

pub returns : goal.returns
returns c = omega (arith, times-most c.width.result 32 c.args.p 4294967295 c.width.ensures.2 (omega (arith, c.requires)))
