-- `walk::calls_after` meets its contract: by its outcome. Assumes nothing.
use Rattle.walk.proofs.calls_after.Goals as goal

pub returns-in-Commit : goal.returns-in-Commit
returns-in-Commit c = rw c.in-Commit.is c.one_less.ensures

pub returns-in-Refused : goal.returns-in-Refused
returns-in-Refused c = rw c.in-Refused.is c.one_less-in-Refused.ensures
