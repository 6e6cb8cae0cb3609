-- `commititer::line_place` meets its contract: k is above the quotient just where its line is past the farthest place. Assumes nothing.
use native.Mathlib.Omega.{arith}
use borrow.Author.Rules.{rules}
use Rattle.commititer.proofs.ParentsPlace.{line-far, line-near}
use Rattle.commititer.proofs.line_place.Goals as goal

pub returns-then-first-size : goal.returns-then-first-size
returns-then-first-size c = omega (arith, line-far c.args.first c.args.size c.args.k c.requires c.if-first-size.true)

pub overflow_mul-result : goal.overflow_mul-result
overflow_mul-result c = omega (arith, line-near c.args.first c.args.size c.args.k c.requires c.if-first-size.false)

pub overflow_add-result : goal.overflow_add-result
overflow_add-result c = omega (arith, line-near c.args.first c.args.size c.args.k c.requires c.if-first-size.false)

pub returns : goal.returns
returns c = omega (arith, line-near c.args.first c.args.size c.args.k c.requires c.if-first-size.false)
