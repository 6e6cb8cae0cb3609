-- `fold_low` meets its contract: by the task. Assumes nothing.
use mathlib.Core.Path.{refl}
use borrow.Author.Rules.{rules}
use Rattle.tally.proofs.fold_low.Goals as goal

pub ids_step-requires : goal.ids_step-requires
ids_step-requires c = c.requires

pub feed_step-requires : goal.feed_step-requires
feed_step-requires c = c.requires

pub terms_step-requires : goal.terms_step-requires
terms_step-requires c = c.requires

pub returns-in-Ids : goal.returns-in-Ids
returns-in-Ids c = λ q. rw c.in-Ids.is (c.ids_step.ensures.0, c.ids_step.ensures.1, refl)

pub returns-in-Feed : goal.returns-in-Feed
returns-in-Feed c = λ q. rw c.in-Feed.is (c.feed_step.ensures q.store-good, refl, refl)

pub returns-in-Terms : goal.returns-in-Terms
returns-in-Terms c = λ q. rw c.in-Terms.is ((c.terms_step.ensures q).0, refl, (c.terms_step.ensures q).1)
