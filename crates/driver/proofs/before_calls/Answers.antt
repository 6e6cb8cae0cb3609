-- `before_calls` meets its contract: field by field. Assumes nothing.
use mathlib.Core.Path.{ap}
use Rattle.tally.specs.declared.Tally.{Tally}
use Rattle.driver.specs.Says.{driven}
use borrow.Author.Rules.{rules}
use Rattle.tally.proofs.no_tally.Reads as no-tally-reads
use Rattle.driver.proofs.before_calls.Goals as goal

pub returns : goal.returns
returns c = ap (λ (t : Tally). driven c.args.o.answer.outcome t c.args.o.«record») c.no_tally.ensures
