-- `digest::blocks::count_for` meets its contract. Assumes nothing.
use borrow.Author.Rules.{rules}
use Rattle.digest.proofs.Padding.{block_count_lem}
use Rattle.digest.proofs.blocks.count_for.Goals as goal

pub returns : goal.returns
returns c = block_count_lem c.args.l
