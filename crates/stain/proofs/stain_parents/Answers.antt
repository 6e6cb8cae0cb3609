-- `stain_parents` meets its contract: after i turns the first i parents of the body are stained. What is left of them grows less. Assumes nothing.
use Rattle.object.specs.Header.{header}
use Rattle.stain.proofs.Staining.{passing_first, passing_next, passing_last}
use Rattle.hash.specs.Bytes.{width_of}
use Rattle.hash.proofs.Widths.{width-most}
use Rattle.stain.proofs.stain_parents.Goals as goal

pub loop-i-init : goal.loop-i-init
loop-i-init c = let x = c.args in passing_first (width_of x.kind) (header (width_of x.kind) x.body.now) x.names.now x.marks.now x.levels.now x.cap x.own x.count

pub loop-i-preserved : goal.loop-i-preserved
loop-i-preserved c = passing_next (width-most c.args.kind) c.args.body.now c.body_parent-id.result c.loop-i.invariant c.loop-i-test.true c.body_parent-id.ensures c.id_slice.ensures c.stain_id.ensures c.stain_id.auto.levels

pub shape_of-levels : goal.shape_of-levels
shape_of-levels c = c.loop-i.invariant.long

pub returns : goal.returns
returns c = passing_last c.loop-i.invariant c.loop-i-test.false
