-- `place` meets its contract: p is at most the quotient where thing p starts before the end of the file, and is above it where it does not. Assumes nothing.
use borrow.Author.Rules.{rules}
use native.Mathlib.Omega.{arith}
use Rattle.commitgraph.proofs.RowsPlace.{starts, starts_not}
use Rattle.commitgraph.proofs.rows.place.Goals as goal

pub returns-then-len-start-2 : goal.returns-then-len-start-2
returns-then-len-start-2 c = omega (arith, starts_not c.requires c.if-len-start-2.true)

pub overflow_mul-result : goal.overflow_mul-result
overflow_mul-result c = omega (arith, starts c.requires c.if-len-start-2.false)

pub overflow_add-result : goal.overflow_add-result
overflow_add-result c = omega (arith, starts c.requires c.if-len-start-2.false)

pub returns : goal.returns
returns c = omega (arith, starts c.requires c.if-len-start-2.false)
