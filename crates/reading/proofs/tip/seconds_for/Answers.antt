-- `reading::seconds_for` meets its contract: the seconds that the store has, else 0. Assumes nothing.
use Rattle.reading.proofs.Tips.{seconds-read}
use borrow.Author.Rules.{rules}
use Rattle.reading.proofs.tip.seconds_for.Goals as goal

pub returns : goal.returns
returns c = seconds-read c.read_tip.ensures c.unwrap_or.ensures
