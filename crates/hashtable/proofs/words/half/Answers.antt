-- `hashtable::words::half` meets its contract: the number is written out. Assumes nothing.
use Rattle.hashtable.specs.Words.{half32}
use borrow.Author.Rules.{rules}
use Rattle.hashtable.proofs.words.half.Goals as goal

pub returns : goal.returns
unfolding half32
returns c = search rules
