-- `opening::check_tip` meets its contract: an excluded tip is passed over, any other is read. Assumes nothing.
use mathlib.Core.Path.{sym, ◌∙◌}
use Rattle.opening.proofs.Tips.{one-skipped, one-read}
use borrow.Author.Rules.{rules}
use Rattle.opening.proofs.check_tip.Goals as goal

pub returns-then-is_among : goal.returns-then-is_among
returns-then-is_among c = one-skipped (sym c.is_among.ensures ∙ c.if-is_among.true)

pub returns : goal.returns
returns c = one-read (sym c.is_among.ensures ∙ c.if-is_among.false) c.read_tip.ensures c.tip_fault.ensures
