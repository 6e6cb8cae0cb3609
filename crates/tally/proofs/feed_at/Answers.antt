-- `feed_at` meets its contract: what the lookup found is read. Assumes nothing.
use mathlib.Core.Path.{◌∙◌}
use Rattle.tally.proofs.Steps.{feed_found, small-found}
use borrow.Author.Rules.{rules}
use Rattle.tally.proofs.read_in.Reads as read-in-reads
use Rattle.odb.proofs.try_find.Reads as try-find-reads
use Rattle.tally.proofs.feed_at.Goals as goal

pub returns : goal.returns
returns c = (λ ok. c.read_in.ensures ∙ feed_found c.try_find-body.ensures ok, small-found c.try_find-body.ensures c.read_in.ensures)
