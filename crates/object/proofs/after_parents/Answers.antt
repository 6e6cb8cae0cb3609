-- `object::after_parents` meets its contract: every line that was passed is a parent line, and none stands where the loop ends.
-- Assumes nothing.
use native.Mathlib.Omega.{arith}
use Rattle.object.proofs.Parents.{skipped-none, skipped-line, skipped-stop, parent-fits}
use Rattle.hash.specs.Bytes.{width_of}
use borrow.Author.Rules.{rules}
use Rattle.object.proofs.after_parents.Goals as goal

pub loop-kind-init : goal.loop-kind-init
loop-kind-init c = skipped-none _ _ _

pub overflow_add-p : goal.overflow_add-p
overflow_add-p c =
    omega (arith, c.parent_size-size.ensures.0, parent-fits (width_of c.args.kind) c.args.body.now c.loop-kind.p c.is_parent_line.ensures c.loop-kind-test.true)

pub loop-kind-smaller : goal.loop-kind-smaller
loop-kind-smaller c =
    omega (arith, c.parent_size-size.ensures.0, parent-fits (width_of c.args.kind) c.args.body.now c.loop-kind.p c.is_parent_line.ensures c.loop-kind-test.true)

pub loop-kind-preserved : goal.loop-kind-preserved
loop-kind-preserved c = rw c.parent_size-size.ensures.0 (skipped-line c.loop-kind.invariant c.is_parent_line.ensures c.loop-kind-test.true)

pub returns : goal.returns
returns c = skipped-stop c.loop-kind.invariant c.is_parent_line.ensures c.loop-kind-test.false
