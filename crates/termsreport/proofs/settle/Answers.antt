-- `settle` meets its contract: by the outcome of the opening. Assumes nothing.
use Rattle.std.specs.Prelude.{Result}
use Rattle.walk.specs.declared.Refusal.{Refusal}
use mathlib.Core.Path.{sym, ◌∙◌, ap}
use Rattle.termsreport.specs.Terms.{opened_by, settled_by}
use borrow.Author.Rules.{rules}
use Rattle.termsreport.proofs.settle.Goals as goal

pub returns-in-Err : goal.returns-in-Err
returns-in-Err c = let x = c.args in (c.refused_terms.ensures ∙ ap (λ (o : Result (Unit {0}) Refusal). opened_by o x.d.tally.reason x.d.tally.outside) (sym c.in-Err.is), ap (λ (o : Result (Unit {0}) Refusal). settled_by o x.d.tally.reason x.counts.now) (sym c.in-Err.is))

pub returns-in-Ok : goal.returns-in-Ok
returns-in-Ok c = let x = c.args in (c.settle_by.ensures.0 ∙ ap (λ (o : Result (Unit {0}) Refusal). opened_by o x.d.tally.reason x.d.tally.outside) (sym c.in-Ok.is), c.settle_by.ensures.1 ∙ ap (λ (o : Result (Unit {0}) Refusal). settled_by o x.d.tally.reason x.counts.now) (sym c.in-Ok.is))
