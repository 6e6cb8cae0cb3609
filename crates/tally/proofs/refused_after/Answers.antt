-- `refused_after` meets its contract: by the cases of the outcome. Assumes nothing.
use borrow.Author.Rules.{rules}
use Rattle.tally.proofs.refused_after.Goals as goal

pub returns-in-Refused : goal.returns-in-Refused
returns-in-Refused c = rw c.in-Refused.is
