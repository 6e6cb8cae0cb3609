-- `revwalk::set_seconds` meets its contract: a store past the end changes nothing. Assumes nothing.
use mathlib.Core.Path.{sym}
use native.Mathlib.Omega.{arith}
use lib.Seq.{set_out}
use borrow.Author.Rules.{rules}
use Rattle.revwalk.proofs.set_seconds.Goals as goal

pub returns-else-i-times : goal.returns-else-i-times
returns-else-i-times c = let x = c.args in sym (set_out x.times.now x.slot x.s.0 (omega arith))
