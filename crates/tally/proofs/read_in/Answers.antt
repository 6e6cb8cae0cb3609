-- `read_in` meets its contract: by whether a body was found. Assumes nothing.
use mathlib.Core.Path.{sym, ◌∙◌, ap}
use mathlib.Core.Bool.{Bool}
use Rattle.tally.specs.Tally.{read_in}
use borrow.Author.Rules.{rules}
use Rattle.feed.proofs.read.Reads as read-reads
use Rattle.tally.proofs.no_reading.Reads as no-reading-reads
use Rattle.tally.proofs.read_in.Goals as goal

pub returns-then-found : goal.returns-then-found
returns-then-found c = c.read.ensures ∙ ap (λ (t : Bool). read_in t c.args.body.now) (sym c.if-found.true)

pub returns-else-found : goal.returns-else-found
returns-else-found c = c.no_reading.ensures ∙ ap (λ (t : Bool). read_in t c.args.body.now) (sym c.if-found.false)
