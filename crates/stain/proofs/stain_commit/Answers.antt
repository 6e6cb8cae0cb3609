-- `stain_commit` meets its contract: the body of the commit says what its parents are; one that is not readable has none. Assumes nothing.
use mathlib.Core.Path.{sym, ◌∙◌}
use Rattle.stain.proofs.Staining.{commit-good, commit-not}
use Rattle.stain.proofs.stain_commit.Goals as goal

pub returns-in-Ok : goal.returns-in-Ok
returns-in-Ok c = let x = c.args in commit-good x.marks.now x.levels.now x.cap c.id_of.ensures c.stored_body-body.ensures _ _ (sym c.readable.ensures ∙ c.in-Ok.is) c.stain_parents.ensures

pub returns-in_default : goal.returns-in_default
returns-in_default c = let x = c.args in commit-not x.marks.now x.levels.now x.cap c.id_of.ensures c.stored_body-body.ensures (λ h e. c.in_default.not-Ok h (c.readable.ensures ∙ e))
