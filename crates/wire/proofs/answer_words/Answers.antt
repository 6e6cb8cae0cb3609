-- `wire::answer_words` meets its contract: each number is the answer's. Assumes nothing.
use mathlib.Core.List.{[], ◌∷◌}
use Rattle.wire.specs.Words.{answer_words}
use borrow.Author.Rules.{rules}
use Rattle.wire.proofs.answer_words.Goals as goal

pub returns : goal.returns
unfolding answer_words
returns c = λ k.
    c.long.ensures k
    ∷ c.long-2.ensures k
    ∷ c.long-3.ensures k
    ∷ c.long-4.ensures k
    ∷ c.has_level.ensures k
    ∷ c.level_value.ensures k
    ∷ c.has_seconds.ensures k
    ∷ c.has_zone.ensures k
    ∷ []
