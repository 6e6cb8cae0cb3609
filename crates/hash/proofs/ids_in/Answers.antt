-- `hash::ids_in` meets its contract: each width is a division by a constant. Assumes nothing.
use Rattle.hash.proofs.Widths.{width_1, width_256}
use Rattle.hash.proofs.ids_in.Goals as goal

pub returns-in-Sha1 : goal.returns-in-Sha1
returns-in-Sha1 c = rw (width_1 c.in-Sha1.is)

pub returns-in-Sha256 : goal.returns-in-Sha256
returns-in-Sha256 c = rw (width_256 c.in-Sha256.is)
