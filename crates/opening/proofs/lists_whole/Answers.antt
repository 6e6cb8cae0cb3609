-- `opening::lists_whole` meets its contract: the first list that is not of whole ids makes the whole false. Assumes nothing.
use mathlib.Core.Path.{sym, ◌∙◌}
use borrow.Author.Tests.{not-true, not-false}
use Rattle.walk.specs.Opening.{whole_ids}
use borrow.Author.Rules.{rules}
use Rattle.opening.proofs.lists_whole.Goals as goal

pub returns-then-not-is_whole : goal.returns-then-not-is_whole
unfolding whole_ids
returns-then-not-is_whole c = λ store graph s e. rw (e, sym c.is_whole.ensures ∙ c.if-not-is_whole.true)

pub returns-then-not-is_whole-2 : goal.returns-then-not-is_whole-2
unfolding whole_ids
returns-then-not-is_whole-2 c = λ store graph s e. rw (e, sym c.is_whole.ensures ∙ c.if-not-is_whole.false, sym c.is_whole-2.ensures ∙ c.if-not-is_whole-2.true)

pub returns : goal.returns
unfolding whole_ids
returns c = λ store graph s e. rw (e, sym c.is_whole.ensures ∙ c.if-not-is_whole.false, sym c.is_whole-2.ensures ∙ c.if-not-is_whole-2.false) c.is_whole-3.ensures
