-- `opening::check_tips` meets its contract: in breadth order no tip is read, under a time order the first fault decides. Assumes nothing.
use mathlib.Core.Path.{refl, sym, ◌∙◌}
use borrow.Author.Tests.{not-true, not-false}
use Rattle.hash.proofs.Tests.{clash}
use borrow.Author.Rules.{rules}
use Rattle.opening.proofs.check_tips.Goals as goal

pub returns-then-not-is_timed : goal.returns-then-not-is_timed
returns-then-not-is_timed c = record { untimed = λ u. refl; by-time = λ t. clash t (sym c.is_timed.ensures ∙ c.if-not-is_timed.true) }

pub returns : goal.returns
returns c = record {
  untimed = λ u. clash (sym c.is_timed.ensures ∙ c.if-not-is_timed.false) u;
  by-time = λ t. c.read_tips.ensures;
}
