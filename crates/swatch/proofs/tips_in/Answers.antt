-- `tips_in` meets its contract: the bytes from place 0. Assumes nothing.
use Rattle.hash.specs.Bytes.{at}
use Rattle.swatch.specs.Text.{tips_in}
use Rattle.swatch.proofs.tips_in.Goals as goal

pub returns : goal.returns
unfolding tips_in at
returns c = c.part.ensures
