-- `lists::parent_count` meets its contract, case by case. Assumes nothing.
-- HEAD-END
use Rattle.frontier.proofs.lists.parent_count.Goals as goal

-- src/lists.rt:108:1
pub returns-in-Body : goal.returns-in-Body
returns-in-Body c = rw c.in-Body.is
