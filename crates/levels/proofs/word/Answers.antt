-- `levels::word` meets its contract: an element is below 2^32, and past the end it is 0. Assumes nothing.
use native.Mathlib.Omega.{arith}
use mathlib.Core.Path.{sym}
use lib.ListN.{get_or-eq_default}
use borrow.Author.Rules.{rules}
use Rattle.levels.proofs.word.Goals as goal

pub returns-then-k-s : goal.returns-then-k-s
returns-then-k-s c = (search rules, omega (arith, c.shared_slice_known-then-k-s-1.given c.args.k))

pub returns-else-k-s : goal.returns-else-k-s
returns-else-k-s c = (sym (get_or-eq_default c.args.s.now 0 c.if-k-s.false), omega arith)
