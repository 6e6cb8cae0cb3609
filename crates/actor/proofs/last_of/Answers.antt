-- `actor::last_of` meets its contract. Assumes nothing.
use Rattle.std.proofs.Common.{rules}
use Rattle.actor.proofs.Places.{last-found}
use Rattle.actor.proofs.last_of.Goals as goal

pub returns : goal.returns
returns c = last-found c.args.byte c.args.b.now _ (search rules)
