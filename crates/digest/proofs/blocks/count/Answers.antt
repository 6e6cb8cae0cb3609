-- `digest::blocks::count` meets its contract: a message of two parts is as long as both. Assumes nothing.
use borrow.Author.Rules.{rules}
use Rattle.digest.proofs.Padding.{count_of}
use Rattle.digest.proofs.blocks.count.Goals as goal

pub returns : goal.returns
returns c = count_of c.args.head.now c.args.body.now c.count_for.result c.count_for.ensures
