-- `feed_step` meets its contract: by the cases of the outcome. Assumes nothing.
use mathlib.Core.Path.{sym, ◌∙◌, ap}
use Rattle.hash.specs.Bytes.{width_of}
use Rattle.object.specs.Ids.{id_in}
use Rattle.walk.specs.Opening.{list_ids}
use Rattle.walk.specs.declared.Outcome.{Outcome}
use Rattle.walk.specs.declared.Outcome.TheVariants.{Commit}
use Rattle.tally.specs.Feeds.{feed_for}
use Rattle.tally.specs.Tally.{counted, fed_by}
use borrow.Author.Rules.{rules}
use Rattle.tally.proofs.add_commit.Reads as add-commit-reads
use Rattle.tally.proofs.count.Reads as count-reads
use Rattle.tally.proofs.feed_for.Reads as feed-for-reads
use Rattle.tally.proofs.feed_step.Goals as goal

pub add_commit-requires : goal.add_commit-requires
add_commit-requires c = (c.requires, c.feed_for.ensures.1)

pub returns-in-Commit : goal.returns-in-Commit
returns-in-Commit c = λ ok. let x = c.args in c.add_commit.ensures ∙ ap (fed_by x.t Commit) (c.feed_for.ensures.0 ok ∙ ap (feed_for (width_of x.kind) (list_ids (width_of x.kind) x.embargoed.now) x.store.now) c.id_slice.ensures) ∙ ap (λ (o : Outcome). fed_by x.t o (feed_for (width_of x.kind) (list_ids (width_of x.kind) x.embargoed.now) x.store.now (id_in (width_of x.kind) x.answer.info.id))) (sym c.in-Commit.is)

pub returns-in-End : goal.returns-in-End
returns-in-End c = λ ok. let x = c.args in ap (λ (o : Outcome). fed_by x.t o (feed_for (width_of x.kind) (list_ids (width_of x.kind) x.embargoed.now) x.store.now (id_in (width_of x.kind) x.answer.info.id))) (sym c.in-End.is)

pub returns-in-Refused : goal.returns-in-Refused
returns-in-Refused c = λ ok. let x = c.args in c.count.ensures ∙ ap (λ (o : Outcome). counted x.t o x.t.feeds) c.in-Refused.is ∙ ap (λ (o : Outcome). fed_by x.t o (feed_for (width_of x.kind) (list_ids (width_of x.kind) x.embargoed.now) x.store.now (id_in (width_of x.kind) x.answer.info.id))) (sym c.in-Refused.is)
