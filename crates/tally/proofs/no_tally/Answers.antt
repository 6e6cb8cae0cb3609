-- `no_tally` meets its contract: field by field. Assumes nothing.
use mathlib.Core.Path.{ap}
use Rattle.tally.specs.Tally.{with_feeds, no_tally}
use borrow.Author.Rules.{rules}
use Rattle.tally.proofs.no_tally.Goals as goal

pub returns : goal.returns
returns c = ap (with_feeds no_tally) c.no_feeds.ensures
