-- `object::count_parents` meets its contract: n parent lines were passed, and the lines that are left are counted from there.
-- Assumes nothing.
use mathlib.Core.Path.{◌≡◌, ◌∙◌}
use native.Mathlib.Omega.{arith}
use Rattle.object.proofs.Parents.{counted_none, counted-line, counted-all, counted-full, parent-fits}
use Rattle.hash.specs.Bytes.{width_of}
use borrow.Author.Rules.{rules}
use Rattle.object.proofs.count_parents.Goals as goal

pub loop-n-init : goal.loop-n-init
loop-n-init c = counted_none _ _ _ _

pub returns-then-not-is_parent_line : goal.returns-then-not-is_parent_line
returns-then-not-is_parent_line c = counted-all c.loop-n.invariant c.is_parent_line.ensures c.if-not-is_parent_line.true

pub overflow_add-p : goal.overflow_add-p
overflow_add-p c =
    omega (arith, c.parent_size-size.ensures.0, parent-fits (width_of c.args.kind) c.args.body.now c.loop-n.p c.is_parent_line.ensures c.if-not-is_parent_line.false)

pub loop-n-preserved : goal.loop-n-preserved
loop-n-preserved c = rw c.parent_size-size.ensures.0 (counted-line c.loop-n.invariant c.is_parent_line.ensures (search rules) c.if-not-is_parent_line.false)

pub returns : goal.returns
returns c = let n : 256 ≡ c.loop-n.n = omega (arith, c.loop-n.invariant.few) in n ∙ counted-full c.loop-n.invariant (search rules)
