-- `wire::words_of` meets its contract: each word is the record's. Assumes nothing.
use mathlib.Core.List.{[], ◌∷◌}
use Rattle.wire.specs.Words.{words_of}
use borrow.Author.Rules.{rules}
use Rattle.wire.proofs.words_of.Goals as goal

pub returns : goal.returns
unfolding words_of
returns c = λ k.
    c.bit.ensures k
    ∷ c.bit-2.ensures k
    ∷ c.bit-3.ensures k
    ∷ c.bit-4.ensures k
    ∷ c.bit-5.ensures k
    ∷ c.bit-6.ensures k
    ∷ c.long.ensures k
    ∷ c.long-2.ensures k
    ∷ c.long-3.ensures k
    ∷ c.long32.ensures k
    ∷ c.long-4.ensures k
    ∷ c.long-5.ensures k
    ∷ c.long-6.ensures k
    ∷ c.long-7.ensures k
    ∷ c.long-8.ensures k
    ∷ c.long-9.ensures k
    ∷ c.long-10.ensures k
    ∷ c.long-11.ensures k
    ∷ c.bit-7.ensures k
    ∷ c.width_word.ensures k
    ∷ []
