-- `most_calls` meets its contract: by the cases of the opening's outcome. Assumes nothing.
use borrow.Author.Rules.{rules}
use Rattle.driver.proofs.most_calls.Goals as goal

pub returns-in-Ok : goal.returns-in-Ok
returns-in-Ok c = rw c.in-Ok.is

pub returns-in-Err : goal.returns-in-Err
returns-in-Err c = rw c.in-Err.is
