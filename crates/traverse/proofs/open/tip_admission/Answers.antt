-- `open::tip_admission` meets its contract: under a time order the tip is read, in breadth order not. Assumes nothing.
use mathlib.Core.Path.{refl, sym, ◌∙◌, ap}
use borrow.Author.Tests.{not-true, not-false}
use Rattle.traverse.specs.Open.{read_as, admission_of}
use Rattle.reading.proofs.Tips.{tip_right}
use Rattle.traverse.proofs.open.tip_admission.Goals as goal

pub returns-then-not-is_timed : goal.returns-then-not-is_timed
unfolding admission_of
returns-then-not-is_timed c = λ ok graph. rw (sym c.is_timed.ensures ∙ c.if-not-is_timed.true) refl

pub returns : goal.returns
unfolding admission_of
returns c =
    λ ok graph. rw (sym c.is_timed.ensures ∙ c.if-not-is_timed.false) (c.read_as.ensures ∙ ap (read_as c.args.sorting) (tip_right c.read_tip.ensures ok graph))
