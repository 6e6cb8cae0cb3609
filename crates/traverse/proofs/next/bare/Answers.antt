-- `next::bare` meets its contract: zeros, and the running numbers of the record. Assumes nothing.
use mathlib.Core.Path.{refl}
use Rattle.traverse.proofs.next.bare.Goals as goal

pub returns : goal.returns
returns c = rw c.no_commit.ensures (record { answer = refl; after = refl })
