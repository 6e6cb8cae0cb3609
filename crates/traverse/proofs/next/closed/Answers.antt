-- `next::closed` meets its contract: the fields are those of refusal 12. Assumes nothing.
use mathlib.Core.Path.{refl}
use Rattle.walk.specs.Given.{given}
use Rattle.traverse.proofs.next.closed.Goals as goal

pub returns : goal.returns
unfolding given
returns c = rw c.no_commit.ensures (record { answer = refl; after = refl })
