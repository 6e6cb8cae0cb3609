-- `marks::with_hidden` meets its contract: the bit is added where the test says that it lacks, and so the sum is a byte. Assumes nothing.
use mathlib.Core.Path.{sym, ◌∙◌}
use native.Mathlib.Omega.{arith}
use Rattle.hashtable.specs.Marks.{with_hidden}
use Rattle.hashtable.proofs.MarksBits.{fits-hidden}
use borrow.Author.Rules.{rules}
use Rattle.hashtable.proofs.marks.with_hidden.Goals as goal

pub overflow_add-result : goal.overflow_add-result
overflow_add-result c = let f = fits-hidden c.args.m (sym c.has_hidden.ensures ∙ c.if-has_hidden.false) (omega arith) in
    search rules

pub returns-then-has_hidden : goal.returns-then-has_hidden
unfolding with_hidden
returns-then-has_hidden c = rw (sym c.has_hidden.ensures ∙ c.if-has_hidden.true)

pub returns-else-has_hidden : goal.returns-else-has_hidden
unfolding with_hidden
returns-else-has_hidden c = rw (sym c.has_hidden.ensures ∙ c.if-has_hidden.false)
