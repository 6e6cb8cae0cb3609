-- `object::readable` meets its contract: the lines are read in their order, and the first that is bad or too many decides.
-- Assumes nothing.
-- the tree line ends at the place that was read
use Rattle.std.specs.Prelude.{Some}
use mathlib.Core.Path.{◌≡◌, sym, ◌∙◌}
use native.Mathlib.Omega.{arith}
use Rattle.object.specs.Read.{tree_at}
use Rattle.object.proofs.Headers.{tree-bad, reading_bad, few-parents, parents-fit, one-too-many, all-good, last-bad}
use Rattle.hash.specs.Bytes.{width_of}
use Rattle.hash.proofs.Widths.{times-most}
use borrow.Author.Rules.{rules}
use Rattle.object.proofs.readable.Goals as goal

pub returns-in_default : goal.returns-in_default
returns-in_default c = sym (reading_bad _ (tree-bad _ _ (sym c.tree_line.ensures ∙ c.in_default.is)))

pub overflow_mul-p : goal.overflow_mul-p
overflow_mul-p c =
    let tree : tree_at (width_of c.args.kind) c.args.body.now 0 ≡ Some c.in-Some.at = sym c.tree_line.ensures ∙ c.in-Some.is in
    omega (arith, times-most c.parent_size.result 72 c.count_parents-parents.result 256 c.parent_size.ensures.1 (few-parents _ _ _ _ tree c.count_parents-parents.ensures))

pub overflow_add-p : goal.overflow_add-p
overflow_add-p c =
    let tree : tree_at (width_of c.args.kind) c.args.body.now 0 ≡ Some c.in-Some.at = sym c.tree_line.ensures ∙ c.in-Some.is in
    rw c.parent_size.ensures.0 (omega (arith, parents-fit _ _ _ _ tree c.count_parents-parents.ensures))

pub returns-then-is_parent_line : goal.returns-then-is_parent_line
returns-then-is_parent_line c =
    let tree : tree_at (width_of c.args.kind) c.args.body.now 0 ≡ Some c.in-Some.at = sym c.tree_line.ensures ∙ c.in-Some.is in
    one-too-many _ _ _ _ tree c.count_parents-parents.ensures (rw c.parent_size.ensures.0 at c.is_parent_line.ensures) c.if-is_parent_line.true

pub returns-in-Some-person_lines : goal.returns-in-Some-person_lines
returns-in-Some-person_lines c =
    let tree : tree_at (width_of c.args.kind) c.args.body.now 0 ≡ Some c.in-Some.at = sym c.tree_line.ensures ∙ c.in-Some.is in
    all-good _ _ _ _ tree c.count_parents-parents.ensures (rw c.parent_size.ensures.0 at c.is_parent_line.ensures) c.if-is_parent_line.false (rw c.parent_size.ensures.0 at c.person_lines.ensures) _ c.in-Some-person_lines.is

pub returns-in-None : goal.returns-in-None
returns-in-None c =
    let tree : tree_at (width_of c.args.kind) c.args.body.now 0 ≡ Some c.in-Some.at = sym c.tree_line.ensures ∙ c.in-Some.is in
    last-bad _ _ _ _ tree c.count_parents-parents.ensures (rw c.parent_size.ensures.0 at c.is_parent_line.ensures) c.if-is_parent_line.false (rw c.parent_size.ensures.0 at c.person_lines.ensures) c.in-None.is
