-- `hashtable::words::word` meets its contract: two halves. Assumes nothing.
use Rattle.hashtable.specs.Words.{word64}
use borrow.Author.Rules.{rules}
use Rattle.hashtable.proofs.words.word.Goals as goal

pub returns : goal.returns
unfolding word64
returns c = search rules
