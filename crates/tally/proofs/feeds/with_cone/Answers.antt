-- `feeds::with_cone` meets its contract: by the cases of the other reading. Assumes nothing.
use Rattle.std.specs.Prelude.{Some}
use mathlib.Core.Path.{sym, ap}
use Rattle.tally.specs.Feeds.{feeds_of}
use borrow.Author.Rules.{rules}
use Rattle.tally.proofs.feeds.with_cone.Goals as goal

pub returns-in-Some : goal.returns-in-Some
returns-in-Some c = ap (feeds_of (Some c.args.cone)) (sym c.in-Some.is)

pub returns-in-None : goal.returns-in-None
returns-in-None c = ap (feeds_of (Some c.args.cone)) (sym c.in-None.is)
