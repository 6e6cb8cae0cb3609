-- `check_embargoed` meets its contract: one test after another. Assumes nothing.
use mathlib.Core.Path.{sym, ◌∙◌, ap}
use borrow.Author.Tests.{not-true, not-false}
use Rattle.opening.specs.Checks.{input_of, checked_of}
use Rattle.reports.proofs.Embargoed.{by_length, by_whole, by-excluded, by-others, as_fits, as_whole}
use borrow.Author.Rules.{rules}
use Rattle.hash.proofs.whole.Reads as whole-reads
use Rattle.opening.proofs.check_input.Reads as check-input-reads
use Rattle.reports.proofs.list_fits.Reads as list-fits-reads
use Rattle.reports.proofs.check_embargoed.Goals as goal

pub returns-then-not-list_fits : goal.returns-then-not-list_fits
returns-then-not-list_fits c = λ s p. let x = c.args in ap checked_of (by_length (input_of x.store.now x.graph.now x.tips.now x.hidden.now x.excluded.now s) x.embargoed.now (as_fits x.embargoed.now p (sym c.list_fits.ensures ∙ c.if-not-list_fits.true)))

pub returns-then-whole : goal.returns-then-whole
returns-then-whole c = λ s p. let x = c.args in ap checked_of (by_whole (input_of x.store.now x.graph.now x.tips.now x.hidden.now x.excluded.now s) x.embargoed.now (as_fits x.embargoed.now p (sym c.list_fits.ensures ∙ c.if-not-list_fits.false)) (as_whole x.embargoed.now p (sym c.whole.ensures ∙ c.if-whole.true)))

pub returns-then-not-list_fits-2 : goal.returns-then-not-list_fits-2
returns-then-not-list_fits-2 c = λ s p. let x = c.args in ap checked_of (by-excluded (input_of x.store.now x.graph.now x.tips.now x.hidden.now x.excluded.now s) x.embargoed.now (as_fits x.embargoed.now p (sym c.list_fits.ensures ∙ c.if-not-list_fits.false)) (as_whole x.embargoed.now p (sym c.whole.ensures ∙ c.if-whole.false)) (as_fits x.excluded.now p (sym c.list_fits-2.ensures ∙ c.if-not-list_fits-2.true)))

pub returns : goal.returns
returns c = λ s p. let x = c.args in c.check_input.ensures s p ∙ ap checked_of (by-others (input_of x.store.now x.graph.now x.tips.now x.hidden.now x.excluded.now s) x.embargoed.now (as_fits x.embargoed.now p (sym c.list_fits.ensures ∙ c.if-not-list_fits.false)) (as_whole x.embargoed.now p (sym c.whole.ensures ∙ c.if-whole.false)) (as_fits x.excluded.now p (sym c.list_fits-2.ensures ∙ c.if-not-list_fits-2.false)))
