-- `wire::put_zone` meets its contract: in a slice of one place nothing is stored. Assumes nothing.
use mathlib.Core.Path.{sym}
use lib.Seq.{set_out}
use borrow.Author.Rules.{rules}
use Rattle.wire.proofs.put_zone.Goals as goal

pub returns-else-out-gt1 : goal.returns-else-out-gt1
returns-else-out-gt1 c = sym (set_out c.args.out.now 1 c.args.m c.if-out-gt1.false)
