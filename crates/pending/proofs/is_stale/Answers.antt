-- `is_stale` meets its contract: it is the test of the byte that was read. Assumes nothing.
use mathlib.Core.Path.{◌∙◌, ap}
use Rattle.hashtable.specs.Marks.{stale}
use Rattle.pending.proofs.is_stale.Goals as goal

pub returns : goal.returns
returns c = c.has_stale.ensures ∙ ap stale c.byte_at.ensures
