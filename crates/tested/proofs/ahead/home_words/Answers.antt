-- `ahead::home_words` meets its contract: the two words, one with the other. Assumes nothing.
use mathlib.Core.Path.{◌∙◌}
use lib.Bits.{bit_xor}
use Rattle.tested.proofs.ahead.home_words.Goals as goal

pub returns : goal.returns
returns c = let mark = c.word_of.ensures ∙ c.mark_of.ensures in
    let cell = c.slot_after.ensures in
    λ i. bit_xor (mark i) (cell i)
