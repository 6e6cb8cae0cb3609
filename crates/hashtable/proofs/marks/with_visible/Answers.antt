-- `marks::with_visible` meets its contract: the bit is added where the test says that it lacks, and so the sum is a byte. Assumes nothing.
use mathlib.Core.Path.{sym, ◌∙◌}
use native.Mathlib.Omega.{arith}
use Rattle.hashtable.specs.Marks.{with_visible}
use Rattle.hashtable.proofs.MarksBits.{fits-visible}
use borrow.Author.Rules.{rules}
use Rattle.hashtable.proofs.marks.with_visible.Goals as goal

pub overflow_add-result : goal.overflow_add-result
overflow_add-result c = let f = fits-visible c.args.m (sym c.has_visible.ensures ∙ c.if-has_visible.false) (omega arith) in
    search rules

pub returns-then-has_visible : goal.returns-then-has_visible
unfolding with_visible
returns-then-has_visible c = rw (sym c.has_visible.ensures ∙ c.if-has_visible.true)

pub returns-else-has_visible : goal.returns-else-has_visible
unfolding with_visible
returns-else-has_visible c = rw (sym c.has_visible.ensures ∙ c.if-has_visible.false)
