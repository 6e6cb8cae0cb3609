-- `terms::term_of` meets its contract: the seconds are the store's. Assumes nothing.
use mathlib.Core.Path.{◌∙◌}
use Rattle.tally.proofs.Counting.{spot_read}
use borrow.Author.Rules.{rules}
use Rattle.tally.proofs.terms.term_of.Goals as goal

pub returns : goal.returns
returns c = λ g ok. c.spot_of.ensures g ∙ spot_read c.args.terms.now c.read_tip.ensures ok
