-- `settle_and_put` meets its contract: the same slots wait once the runs are merged, and the slot enters one of the two. Assumes nothing.
use Rattle.pending.proofs.Pushing.{settled_enters}
use Rattle.pending.proofs.settle_and_put.Goals as goal

pub put_younger-requires : goal.put_younger-requires
put_younger-requires c = (c.settle-q.ensures.right, c.has_place.ensures.yes c.if-has_place.true)

pub returns-then-has_place : goal.returns-then-has_place
returns-then-has_place c = settled_enters c.settle-q.ensures c.put_younger.ensures

pub returns-else-has_place : goal.returns-else-has_place
returns-else-has_place c = settled_enters c.settle-q.ensures c.put_older.ensures
