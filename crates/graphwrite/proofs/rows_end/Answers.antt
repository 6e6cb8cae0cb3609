-- `graphwrite::rows_end` meets its contract: the products are small, and the width is the kind's. Assumes nothing.
use mathlib.Core.Path.{ap}
use Prim.Native.Nat.{ℕ, ◌+◌, ◌*◌}
use native.Mathlib.Omega.{arith}
use Rattle.hash.proofs.Widths.{times-most}
use Rattle.graphwrite.proofs.rows_end.Goals as goal

pub overflow_mul-result : goal.overflow_mul-result
overflow_mul-result c = omega (arith, times-most c.width-w.result 32 c.args.n 1048576 c.width-w.ensures.2 c.requires.1)

pub overflow_add-result-2 : goal.overflow_add-result-2
overflow_add-result-2 c = omega (arith, times-most c.width-w.result 32 c.args.n 1048576 c.width-w.ensures.2 c.requires.1, c.requires.0)

pub overflow_mul-result-2 : goal.overflow_mul-result-2
overflow_mul-result-2 c = omega (arith, times-most (c.width-w.result + 16) 48 c.args.n 1048576 (omega (arith, c.width-w.ensures.2)) c.requires.1)

pub overflow_add-result-4 : goal.overflow_add-result-4
overflow_add-result-4 c = omega (arith, times-most c.width-w.result 32 c.args.n 1048576 c.width-w.ensures.2 c.requires.1, times-most (c.width-w.result + 16) 48 c.args.n 1048576 (omega (arith, c.width-w.ensures.2)) c.requires.1, c.requires.0)

pub returns : goal.returns
returns c = let x = c.args in (ap (λ (w : ℕ). x.o + 1024 + w * x.n + (w + 16) * x.n) c.width-w.ensures.0, omega (arith, times-most c.width-w.result 32 c.args.n 1048576 c.width-w.ensures.2 c.requires.1, times-most (c.width-w.result + 16) 48 c.args.n 1048576 (omega (arith, c.width-w.ensures.2)) c.requires.1, c.requires.0))
