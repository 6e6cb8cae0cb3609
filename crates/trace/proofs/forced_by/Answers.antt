-- `forced_by` meets its contract: the parent of that number stands in the start's body, or there is none. Assumes nothing.
use mathlib.Core.Path.{refl}
use Rattle.trace.proofs.Answering.{no-parent, a-parent}
use Rattle.hash.proofs.Widths.{width-most}
use Rattle.trace.proofs.forced_by.Goals as goal

-- src/lib.rt:82:9
pub returns-then-parent_count-i : goal.returns-then-parent_count-i
returns-then-parent_count-i c = let x = c.args in no-parent (width-most x.kind) x.i c.stored_body-body.ensures c.parent_count.ensures c.id_slice.ensures c.if-parent_count-i.true refl

-- src/lib.rt:73:1
pub returns : goal.returns
returns c = let x = c.args in a-parent (width-most x.kind) x.i c.stored_body-body.ensures c.parent_count.ensures c.id_slice.ensures {z = c.body_parent-id.result} {w = c.id_of-parent.result} c.if-parent_count-i.false c.body_parent-id.ensures c.id_slice-2.ensures c.id_of-parent.ensures
