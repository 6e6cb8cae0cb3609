-- `reading::seconds_noting` meets its contract: the seconds that the store has, else 0. Assumes nothing.
use Rattle.reading.proofs.Tips.{seconds-read}
use borrow.Author.Rules.{rules}
use Rattle.reading.proofs.tip.seconds_noting.Goals as goal

pub returns : goal.returns
returns c = (seconds-read c.read_tip_noting.ensures.0 c.unwrap_or.ensures, c.read_tip_noting.ensures.1)
