-- `reading::read_tip` meets its contract: the number of the entry is dropped. Assumes nothing.
use borrow.Author.Rules.{rules}
use Rattle.reading.proofs.tip.read_tip.Goals as goal

pub returns : goal.returns
returns c = c.read_tip_noting.ensures.0
