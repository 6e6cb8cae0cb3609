-- `fsck::check_sum` meets its contract: the checksum decides. Assumes nothing.
use mathlib.Core.Path.{sym, ◌∙◌}
use Rattle.fsck.specs.Names.{sum_report}
use Rattle.fsck.proofs.check_sum.Goals as goal

pub returns-then-sum_is_fine : goal.returns-then-sum_is_fine
unfolding sum_report
returns-then-sum_is_fine c = rw (sym c.sum_is_fine.ensures ∙ c.if-sum_is_fine.true)

pub returns : goal.returns
unfolding sum_report
returns c = rw (sym c.sum_is_fine.ensures ∙ c.if-sum_is_fine.false)
