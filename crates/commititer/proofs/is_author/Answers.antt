-- `commititer::is_author` meets its contract: no line begins as a parent and as an author. Assumes nothing.
use mathlib.Core.Path.{◌∙◌}
use Rattle.commititer.proofs.ByHeader.{author-read}
use Rattle.commititer.proofs.is_author.Goals as goal

pub returns : goal.returns
returns c = λ w. c.is_some.ensures ∙ author-read w c.args.«data».now c.args.at _ c.author_line.ensures
