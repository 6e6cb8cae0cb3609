-- `feeds::plus` meets its contract: no sum passes 64 bits. Assumes nothing.
use native.Mathlib.Omega.{arith}
use borrow.Author.Rules.{rules}
use Rattle.tally.proofs.feeds.plus.Goals as goal

pub overflow_add-result-6 : goal.overflow_add-result-6
overflow_add-result-6 c = omega (arith, c.requires.0.bed-sum, c.requires.1.bed-sum)

pub overflow_add-result-7 : goal.overflow_add-result-7
overflow_add-result-7 c = omega (arith, c.requires.0.paired-cone, c.requires.1.paired-cone)

pub overflow_add-result-8 : goal.overflow_add-result-8
overflow_add-result-8 c = omega (arith, c.requires.0.paired-bed, c.requires.1.paired-bed)
