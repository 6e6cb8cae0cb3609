-- `hash::id_at` meets its contract: the part is as wide as an id. Assumes nothing.
use mathlib.Core.Path.{sym}
use Rattle.hash.proofs.id_at.Goals as goal

pub returns : goal.returns
returns c = rw (sym c.width.ensures.0) c.part.ensures
