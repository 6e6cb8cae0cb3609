-- `terms::spot_of` meets its contract: by what was read. Assumes nothing.
use mathlib.Core.Path.{sym, ◌∙◌, ap}
use Rattle.tally.specs.Terms.{spot_of}
use borrow.Author.Rules.{rules}
use Rattle.tally.proofs.terms.spot_of.Goals as goal

pub returns-in-Ok : goal.returns-in-Ok
returns-in-Ok c = λ ok. c.spot_at.ensures ok ∙ ap (spot_of c.args.terms.now) (sym c.in-Ok.is)

pub returns-in-Err : goal.returns-in-Err
returns-in-Err c = λ ok. ap (spot_of c.args.terms.now) (sym c.in-Err.is)
