-- `hash::word_at` meets its contract: four bytes that stand in the slice, read at once. Assumes nothing.
use Rattle.hash.specs.Bytes.{u32_at}
use Rattle.hash.proofs.word_at.Goals as goal

pub returns : goal.returns
unfolding u32_at
returns c = c.word.ensures
