-- `add_commit` meets its contract: by whether the readings are faulty. Assumes nothing.
use mathlib.Core.Path.{sym, ◌∙◌, ap, subst}
use Rattle.walk.specs.declared.Outcome.TheVariants.{Commit}
use Rattle.tally.specs.Feeds.{plus, LowFeeds}
use Rattle.tally.specs.Tally.{counted, fed_by}
use Rattle.tally.proofs.Few.{low_read}
use borrow.Author.Rules.{rules}
use Rattle.tally.proofs.feeds.feeds_of.Reads as feeds-of-reads
use Rattle.tally.proofs.feeds.plus.Reads as plus-reads
use Rattle.tally.proofs.count.Reads as count-reads
use Rattle.tally.proofs.add_commit.Goals as goal

pub plus-requires : goal.plus-requires
plus-requires c = (c.requires.0.feeds, subst LowFeeds (sym c.feeds_of.ensures) (low_read _ _ c.requires.1 c.in-Ok.is))

pub returns-in-Ok : goal.returns-in-Ok
returns-in-Ok c = let t = c.args.t in c.count.ensures ∙ ap (counted t Commit) (c.plus.ensures ∙ ap (plus t.feeds) c.feeds_of.ensures) ∙ ap (fed_by t Commit) (sym c.in-Ok.is)

pub returns-in-Err : goal.returns-in-Err
returns-in-Err c = c.count-in-Err.ensures ∙ ap (fed_by c.args.t Commit) (sym c.in-Err.is)
