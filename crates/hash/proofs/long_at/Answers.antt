-- `hash::long_at` meets its contract: eight bytes are two words. Assumes nothing.
use native.Mathlib.Omega.{arith}
use Rattle.hash.specs.Bytes.{u64_at}
use Rattle.hash.proofs.long_at.Goals as goal

pub returns : goal.returns
unfolding u64_at
returns c = omega (arith, c.long-2.ensures.0, c.word_at-2.ensures, c.long.ensures.0, c.word_at.ensures)
