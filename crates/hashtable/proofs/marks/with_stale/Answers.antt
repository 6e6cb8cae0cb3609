-- `marks::with_stale` meets its contract: the bit is added where the test says that it lacks, and so the sum is a byte. Assumes nothing.
use mathlib.Core.Path.{sym, ◌∙◌}
use native.Mathlib.Omega.{arith}
use Rattle.hashtable.specs.Marks.{with_stale}
use Rattle.hashtable.proofs.MarksBits.{fits-stale}
use borrow.Author.Rules.{rules}
use Rattle.hashtable.proofs.marks.with_stale.Goals as goal

pub overflow_add-result : goal.overflow_add-result
overflow_add-result c = let f = fits-stale c.args.m (sym c.has_stale.ensures ∙ c.if-has_stale.false) (omega arith) in
    search rules

pub returns-then-has_stale : goal.returns-then-has_stale
unfolding with_stale
returns-then-has_stale c = rw (sym c.has_stale.ensures ∙ c.if-has_stale.true)

pub returns-else-has_stale : goal.returns-else-has_stale
unfolding with_stale
returns-else-has_stale c = rw (sym c.has_stale.ensures ∙ c.if-has_stale.false)
