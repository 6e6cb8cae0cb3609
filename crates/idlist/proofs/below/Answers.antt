-- `idlist::below` meets its contract: below number m the range ends at it, and the number to look at lies in it. Assumes nothing.
use mathlib.Core.Path.{refl}
use Rattle.idlist.proofs.below.Goals as goal

pub returns : goal.returns
returns c = let m = c.back.ensures in (refl, refl, λ h. (m.0, m.2 h))
