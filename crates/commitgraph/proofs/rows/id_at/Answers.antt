-- `id_at` meets its contract: each arm names its own width. Assumes nothing.
use mathlib.Core.Path.{◌≡◌}
use borrow.Author.Rules.{rules}
use Rattle.commitgraph.proofs.rows.id_at.Goals as goal

pub returns-in-Sha1 : goal.returns-in-Sha1
returns-in-Sha1 c = rw c.in-Sha1.is (rw c.width.ensures.0 at c.id_in.ensures)

pub returns-in-Sha256 : goal.returns-in-Sha256
returns-in-Sha256 c = rw c.in-Sha256.is (rw c.width-in-Sha256.ensures.0 at c.id_in-in-Sha256.ensures)
