-- `seconds_of` meets its contract: past the end of the seconds the list's default is 0. Assumes nothing.
use mathlib.Core.Path.{sym}
use lib.ListN.{get_or-eq_default}
use lib.IntN.{pos}
use borrow.Author.Rules.{rules}
use Rattle.revwalk.proofs.seconds_of.Goals as goal

pub returns-else-i-times : goal.returns-else-i-times
returns-else-i-times c = sym (get_or-eq_default c.args.times.now (pos 0) c.if-i-times.false)
