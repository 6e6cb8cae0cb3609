-- `reading::read_tip_noting` meets its contract: the body that the store has under the id is read for its seconds. Assumes nothing.
use Rattle.reading.proofs.Tips.{tip_body, tip_missing}
use borrow.Author.Rules.{rules}
use Rattle.reading.proofs.tip.read_tip_noting.Goals as goal

pub returns-then-found : goal.returns-then-found
returns-then-found c = (tip_body c.try_find_noting-body.ensures.0 c.if-found.true c.stamp_only.ensures c.tip_seconds.ensures, c.try_find_noting-body.ensures.1)

pub returns-else-found : goal.returns-else-found
returns-else-found c = (tip_missing c.try_find_noting-body.ensures.0 c.if-found.false, c.try_find_noting-body.ensures.1)
