-- `has_both` meets its contract: both marks are VISIBLE and HIDDEN. Assumes nothing.
use mathlib.Core.Path.{◌∙◌, sym}
use Rattle.hashtable.specs.Marks.{frontier}
use Rattle.stain.proofs.has_both.Goals as goal

pub returns-then-has_visible : goal.returns-then-has_visible
unfolding frontier
returns-then-has_visible c = rw (sym c.has_visible.ensures ∙ c.if-has_visible.true) c.has_hidden.ensures

pub returns-else-has_visible : goal.returns-else-has_visible
unfolding frontier
returns-else-has_visible c = rw (sym c.has_visible.ensures ∙ c.if-has_visible.false) c.if-has_visible.false
