-- `hash::past_all` meets its contract: each width has its own greatest number of ids. Assumes nothing.
use Rattle.hash.proofs.Widths.{width_1, width_256, past_20, past_32}
use Rattle.hash.proofs.past_all.Goals as goal

pub returns-in-Sha1 : goal.returns-in-Sha1
returns-in-Sha1 c = rw (width_1 c.in-Sha1.is) (past_20 c.args.k)

pub returns-in-Sha256 : goal.returns-in-Sha256
returns-in-Sha256 c = rw (width_256 c.in-Sha256.is) (past_32 c.args.k)
