-- `settle_by` meets its contract: by the cases of the first refusal. Assumes nothing.
use mathlib.Core.Path.{sym, ◌∙◌, ap}
use Rattle.walk.specs.declared.Outcome.{Outcome}
use Rattle.termsreport.specs.Terms.{terms_by, kept_by}
use borrow.Author.Rules.{rules}
use Rattle.termsreport.proofs.settle_by.Goals as goal

pub returns-in-Refused : goal.returns-in-Refused
returns-in-Refused c = let x = c.args in (c.refused_terms.ensures ∙ ap (λ (o : Outcome). terms_by o x.outside) (sym c.in-Refused.is), c.clear.ensures ∙ ap (λ (o : Outcome). kept_by o x.counts.now) (sym c.in-Refused.is))

pub returns-in-Commit : goal.returns-in-Commit
returns-in-Commit c = let x = c.args in (c.whole_terms.ensures ∙ ap (λ (o : Outcome). terms_by o x.outside) (sym c.in-Commit.is), ap (λ (o : Outcome). kept_by o x.counts.now) (sym c.in-Commit.is))

pub returns-in-End : goal.returns-in-End
returns-in-End c = let x = c.args in (c.whole_terms-in-End.ensures ∙ ap (λ (o : Outcome). terms_by o x.outside) (sym c.in-End.is), ap (λ (o : Outcome). kept_by o x.counts.now) (sym c.in-End.is))
