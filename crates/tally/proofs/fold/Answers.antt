-- `fold` meets its contract: where its promise is told each number is low. Assumes nothing.
use Rattle.hash.proofs.Tests.{clash}
use borrow.Author.Rules.{rules}
use Rattle.tally.proofs.fold.Goals as goal

pub fold_low-requires : goal.fold_low-requires
fold_low-requires c = c.is_low.ensures.0 c.if-is_low.true

pub returns-else-is_low : goal.returns-else-is_low
returns-else-is_low c = λ q. clash (c.is_low.ensures.1 q.low) c.if-is_low.false
