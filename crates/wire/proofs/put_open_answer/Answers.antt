-- `wire::put_open_answer` meets its contract: the numbers one by one. Assumes nothing.
use mathlib.Core.Path.{◌∙◌, ap}
use mathlib.Core.List.{[], ◌∷◌}
use Rattle.hash.specs.Bytes.{set_down}
use Rattle.wire.specs.Words.{open_words}
use borrow.Author.Rules.{rules}
use Rattle.wire.proofs.put_open_answer.Goals as goal

pub returns : goal.returns
unfolding open_words
returns c = record { result = c.open_number.ensures; numbers_are = c.put.ensures ∙ ap (set_down c.args.numbers.now 0) (λ k. c.long.ensures k ∷ c.long-2.ensures k ∷ c.long-3.ensures k ∷ []) }
