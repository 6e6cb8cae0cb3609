-- `levels::line_place` meets its contract: the product is small. Assumes nothing.
use native.Mathlib.Omega.{arith}
use mathlib.Core.Path.{ap, ◌∙◌}
use Prim.Native.Nat.{ℕ, ◌+◌, ◌*◌}
use Rattle.hash.specs.Bytes.{width_of}
use Rattle.hash.proofs.Widths.{times-most}
use Rattle.object.specs.Header.{tree_size}
use Rattle.levels.proofs.line_place.Goals as goal

pub overflow_mul-result : goal.overflow_mul-result
overflow_mul-result c = omega (arith, times-most c.parent_size.result 72 c.args.j 256 c.parent_size.ensures.1 c.requires)

pub overflow_add-result : goal.overflow_add-result
overflow_add-result c = omega (arith, c.tree_size.ensures.1, times-most c.parent_size.result 72 c.args.j 256 c.parent_size.ensures.1 c.requires)

pub returns : goal.returns
returns c = let x = c.args in
    ap (λ (n : ℕ). n + c.parent_size.result * x.j) c.tree_size.ensures.0 ∙ ap (λ (n : ℕ). tree_size (width_of x.kind) + n * x.j) c.parent_size.ensures.0
