-- `wire::put_seconds` meets its contract: in an empty slice nothing is stored. Assumes nothing.
use mathlib.Core.Path.{sym}
use lib.Seq.{set_out}
use borrow.Author.Rules.{rules}
use Rattle.wire.proofs.put_seconds.Goals as goal

pub returns-else-out-gt0 : goal.returns-else-out-gt0
returns-else-out-gt0 c = sym (set_out c.args.out.now 0 c.args.s c.if-out-gt0.false)
