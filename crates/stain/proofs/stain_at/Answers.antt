-- `stain_at` meets its contract: the mark in the slot is that of the id. Assumes nothing.
use Rattle.stain.proofs.Staining.{at_both, at_other}
use Rattle.stain.proofs.stain_at.Goals as goal

pub returns-then-has_both : goal.returns-then-has_both
returns-then-has_both c = at_both c.args.cap c.mark_of-m.ensures c.has_both.ensures c.if-has_both.true c.stain_commit.ensures

pub returns-else-has_both : goal.returns-else-has_both
returns-else-has_both c = at_other c.args.cap c.mark_of-m.ensures c.has_both.ensures c.if-has_both.false
