-- `clear` meets its contract: after i turns the first i cells are 0. Assumes nothing.
use borrow.Author.Rules.{rules}
use mathlib.Core.Path.{◌≡◌, refl, ◌∙◌}
use Prim.Native.Nat.{ℕ, ◌-◌, ◌≤◌}
use native.Mathlib.Omega.{arith}
use lib.ListN.{length, length-set}
use Rattle.memo.proofs.Cells.{ZeroTo, zero-first, zero-next, zero-all}
use Rattle.memo.proofs.clear.Reads as reads
use Rattle.memo.proofs.clear.Goals as goal

-- src/lib.rt:73:5
pub loop-i-init : goal.loop-i-init
loop-i-init c = (refl, zero-first c.args.memo.now)

-- src/lib.rt:73:5
pub loop-i-preserved : goal.loop-i-preserved
loop-i-preserved c = (simp length-set c.loop-i.invariant.0, zero-next c.loop-i.i c.loop-i.invariant.1 (omega arith))

-- src/lib.rt:69:1
pub shape_of-memo : goal.shape_of-memo
shape_of-memo c = c.loop-i.invariant.0

-- src/lib.rt:69:1
pub returns : goal.returns
returns c = zero-all c.loop-i.i c.loop-i.invariant.1 (omega arith)
