-- `wire::width_word` meets its contract: the two cases are those of the definition. Assumes nothing.
use mathlib.Core.Path.{sym, ap}
use borrow.Author.Rules.{rules}
use Rattle.wire.specs.Words.{width_word}
use Rattle.wire.proofs.width_word.Goals as goal

pub returns-in-Sha1 : goal.returns-in-Sha1
returns-in-Sha1 c = sym (ap width_word c.in-Sha1.is)

pub returns-in-Sha256 : goal.returns-in-Sha256
returns-in-Sha256 c = sym (ap width_word c.in-Sha256.is)
