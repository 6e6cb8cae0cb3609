-- `idlist::above` meets its contract: above number m the range begins at the next one, and the number to look at lies in it. Assumes nothing.
use mathlib.Core.Path.{refl}
use Rattle.idlist.proofs.above.Goals as goal

pub returns : goal.returns
returns c = let m = c.ahead.ensures in (refl, refl, λ h. (m.0, m.2 h))
