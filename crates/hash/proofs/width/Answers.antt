-- `hash::width` meets its contract: the two cases are those of the definition. Assumes nothing.
use Rattle.hash.proofs.Widths.{width_1, width_256}
use mathlib.Core.Path.{sym}
use borrow.Author.Rules.{rules}
use Rattle.hash.proofs.width.Goals as goal

pub returns-in-Sha1 : goal.returns-in-Sha1
returns-in-Sha1 c = (sym (width_1 c.in-Sha1.is), search rules, search rules)

pub returns-in-Sha256 : goal.returns-in-Sha256
returns-in-Sha256 c = (sym (width_256 c.in-Sha256.is), search rules, search rules)
