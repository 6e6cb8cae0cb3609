-- `clear` meets its contract: after i turns the first i cells are 0. Assumes nothing.
use borrow.Author.Rules.{rules}
use mathlib.Core.Path.{◌≡◌, refl, ◌∙◌}
use Prim.Native.Nat.{ℕ, ◌-◌, ◌≤◌}
use native.Mathlib.Omega.{arith}
use lib.ListN.{length, length-set}
use Rattle.memo.proofs.Cells.{ZeroTo, zero-first, zero-next, zero-all}
use Rattle.memo.proofs.clear.Reads as reads
use Rattle.memo.proofs.clear.Given as goal

abbrev pub invariant-loop-i : goal.invariant-loop-i
invariant-loop-i l = (length l.memo ≡ length l.initial.memo) × ZeroTo l.i l.memo

abbrev pub decreases-loop-i : goal.decreases-loop-i
decreases-loop-i l = length l.initial.memo - l.i
