-- `chunks::row_size` meets its contract: a difference of natural numbers is 0 where the second is greater. Assumes nothing.
use native.Mathlib.Omega.{arith}
use native.Mathlib.Numerals.{add-one}
use borrow.Author.Rules.{rules}
use Rattle.commitgraph.proofs.chunks.row_size.Goals as goal

pub returns-then-end-start : goal.returns-then-end-start
returns-then-end-start c = let p = rw add-one at c.row_offset-end.ensures in omega arith

pub returns : goal.returns
returns c = let p = rw add-one at c.row_offset-end.ensures in omega arith
