-- `commits_after` meets its contract: by the cases of the outcome. Assumes nothing.
use borrow.Author.Rules.{rules}
use Rattle.tally.proofs.commits_after.Goals as goal

pub returns-in-Commit : goal.returns-in-Commit
returns-in-Commit c = rw c.in-Commit.is
