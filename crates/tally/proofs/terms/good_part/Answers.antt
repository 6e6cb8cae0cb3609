-- `terms::good_part` meets its contract: by whether the list is good. Assumes nothing.
use mathlib.Core.Path.{sym, ◌∙◌}
use borrow.Author.Tests.{not-true, not-false}
use Rattle.tally.proofs.Counting.{good-is, bad-is}
use borrow.Author.Rules.{rules}
use Rattle.tally.proofs.terms.good_part.Goals as goal

pub returns-then-bad_terms : goal.returns-then-bad_terms
returns-then-bad_terms c = bad-is c.args.terms.now (not-true _ (sym c.bad_terms.ensures ∙ c.if-bad_terms.true))

pub returns-else-bad_terms : goal.returns-else-bad_terms
returns-else-bad_terms c = good-is c.args.terms.now (not-false _ (sym c.bad_terms.ensures ∙ c.if-bad_terms.false))
