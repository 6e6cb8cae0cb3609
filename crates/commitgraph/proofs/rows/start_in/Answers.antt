-- `start_in` meets its contract: it is the place of the row. Assumes nothing.
use mathlib.Core.Path.{sym}
use borrow.Author.Rules.{rules}
use Rattle.commitgraph.proofs.rows.start_in.Goals as goal

pub returns : goal.returns
returns c = rw (sym c.size.ensures) c.place.ensures
