-- `places` meets its contract: a parent line has that length. Assumes nothing.
use mathlib.Core.Path.{ap}
use Prim.Native.Nat.{ℕ, ◌+◌, ◌/◌}
use native.Mathlib.Omega.{arith}
use Rattle.opening.proofs.Input.{lines_few}
use Rattle.mergebase.proofs.places.Goals as goal

pub overflow_add-result : goal.overflow_add-result
overflow_add-result c = omega (arith, ap (λ (w : ℕ). c.args.n / w) c.parent_size.ensures.0, lines_few c.args.kind c.args.n)

pub returns : goal.returns
returns c = ap (λ (w : ℕ). 2 + c.args.n / w) c.parent_size.ensures.0
