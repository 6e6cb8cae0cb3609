-- `drive` meets its contract: what the opening and the calls after it promise, put together. Assumes nothing.
use mathlib.Core.Path.{◌≡◌, sym, ◌∙◌, subst}
use Prim.Native.Nat.{ℕ}
use mathlib.Core.Bool.{true}
use mathlib.Core.List.{List}
use lib.ListN.{length}
use Rattle.calendar.specs.Terms.{good_terms}
use Rattle.tally.specs.Terms.{FewCounts}
use Rattle.tally.proofs.Counting.{few-zeros, good_none, nothing-good}
use Rattle.driver.proofs.DriveSaid.{few-slots, may-call, drive-says}
use borrow.Author.Rules.{rules}
use Rattle.driver.proofs.drive.Goals as goal

pub most_calls-requires : goal.most_calls-requires
most_calls-requires c = few-slots c.open-o.ensures

pub call_all-requires : goal.call_all-requires
call_all-requires c = let q = may-call c.open-o.ensures c.most_calls.ensures c.before_calls.ensures in (q.0, q.1, q.2, subst (λ (l : List ℕ). good_terms l ≡ true) (sym c.good_part-good.ensures) (good_none nothing-good c.args.terms.now), subst (FewCounts 0) (sym c.clear.ensures) (few-zeros (length c.args.counts.now)))

pub shape_of-names : goal.shape_of-names
shape_of-names c = c.call_all.auto.names ∙ c.open-o.auto.names

pub shape_of-marks : goal.shape_of-marks
shape_of-marks c = c.call_all.auto.marks ∙ c.open-o.auto.marks

pub shape_of-levels : goal.shape_of-levels
shape_of-levels c = c.call_all.auto.levels ∙ c.open-o.auto.levels

pub shape_of-times : goal.shape_of-times
shape_of-times c = c.call_all.auto.times ∙ c.open-o.auto.times

pub shape_of-line : goal.shape_of-line
shape_of-line c = c.call_all.auto.line ∙ c.open-o.auto.line

pub shape_of-parents : goal.shape_of-parents
shape_of-parents c = c.call_all.auto.parents ∙ c.open-o.auto.parents

pub shape_of-counts : goal.shape_of-counts
shape_of-counts c = c.call_all.auto.counts ∙ c.clear.auto.counts

pub returns : goal.returns
returns c = drive-says c.open-o.ensures c.args.terms.now c.args.counts.now c.good_part-good.ensures c.clear.ensures c.most_calls.ensures c.before_calls.ensures c.call_all.ensures
