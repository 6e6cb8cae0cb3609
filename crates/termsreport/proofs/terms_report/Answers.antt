-- `terms_report` meets its contract: by whether the list of terms is good; then the driver's task Terms, as a report. Assumes nothing.
use mathlib.Core.Path.{sym, ◌∙◌}
use borrow.Author.Tests.{not-true, not-false}
use Rattle.termsreport.proofs.TermsSaid.{bad-says, terms-says}
use borrow.Author.Rules.{rules}
use Rattle.termsreport.proofs.terms_report.Goals as goal

pub returns-then-bad_terms : goal.returns-then-bad_terms
returns-then-bad_terms c = bad-says (not-true _ (sym c.bad_terms.ensures ∙ c.if-bad_terms.true)) c.refused_terms.ensures c.clear.ensures

pub returns : goal.returns
returns c = terms-says (not-false _ (sym c.bad_terms.ensures ∙ c.if-bad_terms.false)) c.drive-d.ensures c.settle.ensures.0 c.settle.ensures.1
