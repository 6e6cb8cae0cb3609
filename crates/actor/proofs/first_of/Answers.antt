-- `actor::first_of` meets its contract. Assumes nothing.
use Rattle.std.proofs.Common.{rules}
use Rattle.actor.proofs.Places.{first-found}
use Rattle.actor.proofs.first_of.Goals as goal

pub returns : goal.returns
returns c = first-found c.args.byte c.args.b.now _ (search rules)
