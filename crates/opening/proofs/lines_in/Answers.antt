-- `opening::lines_in` meets its contract: a parent line has that length. Assumes nothing.
use mathlib.Core.Path.{ap}
use Prim.Native.Nat.{ℕ, ◌/◌}
use borrow.Author.Rules.{rules}
use Rattle.opening.proofs.lines_in.Reads as reads
use Rattle.object.proofs.parent_size.Reads as parent-size-reads
use Rattle.opening.proofs.lines_in.Goals as goal

pub returns : goal.returns
returns c = ap (λ (w : ℕ). c.args.n / w) c.parent_size.ensures.0
