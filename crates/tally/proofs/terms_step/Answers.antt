-- `terms_step` meets its contract: by the cases of the outcome. Assumes nothing.
use mathlib.Core.Path.{sym, ◌∙◌, ap}
use Rattle.hash.specs.Bytes.{width_of}
use Rattle.object.specs.Ids.{id_in}
use Rattle.walk.specs.declared.Outcome.{Outcome}
use Rattle.tally.specs.Terms.{term_of, counts_at}
use Rattle.tally.specs.Tally.{counted, placed, placed_by, counts_after}
use borrow.Author.Rules.{rules}
use Rattle.tally.proofs.terms_step.Goals as goal

pub place-requires : goal.place-requires
place-requires c = c.requires

pub count-requires : goal.count-requires
count-requires c = c.requires

pub returns-in-Commit : goal.returns-in-Commit
returns-in-Commit c = λ q. let x = c.args in (c.place.ensures.0 ∙ ap (placed x.t) (c.term_of.ensures q.terms-good q.store-good ∙ ap (term_of (width_of x.kind) x.terms.now x.store.now) c.id_slice.ensures) ∙ ap (λ (o : Outcome). placed_by x.t o (term_of (width_of x.kind) x.terms.now x.store.now (id_in (width_of x.kind) x.answer.info.id))) (sym c.in-Commit.is), c.place.ensures.1 q.few ∙ ap (counts_at x.counts.now) (c.term_of.ensures q.terms-good q.store-good ∙ ap (term_of (width_of x.kind) x.terms.now x.store.now) c.id_slice.ensures) ∙ ap (λ (o : Outcome). counts_after x.counts.now o (term_of (width_of x.kind) x.terms.now x.store.now (id_in (width_of x.kind) x.answer.info.id))) (sym c.in-Commit.is))

pub returns-in-End : goal.returns-in-End
returns-in-End c = λ q. let x = c.args in (ap (λ (o : Outcome). placed_by x.t o (term_of (width_of x.kind) x.terms.now x.store.now (id_in (width_of x.kind) x.answer.info.id))) (sym c.in-End.is), ap (λ (o : Outcome). counts_after x.counts.now o (term_of (width_of x.kind) x.terms.now x.store.now (id_in (width_of x.kind) x.answer.info.id))) (sym c.in-End.is))

pub returns-in-Refused : goal.returns-in-Refused
returns-in-Refused c = λ q. let x = c.args in (c.count.ensures ∙ ap (λ (o : Outcome). counted x.t o x.t.feeds) c.in-Refused.is ∙ ap (λ (o : Outcome). placed_by x.t o (term_of (width_of x.kind) x.terms.now x.store.now (id_in (width_of x.kind) x.answer.info.id))) (sym c.in-Refused.is), ap (λ (o : Outcome). counts_after x.counts.now o (term_of (width_of x.kind) x.terms.now x.store.now (id_in (width_of x.kind) x.answer.info.id))) (sym c.in-Refused.is))
