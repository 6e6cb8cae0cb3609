-- `cells::fill_at` meets its contract: the child and the hint are set down. Assumes nothing.
use mathlib.Core.Path.{◌≡◌, ◌∙◌, ap}
use mathlib.Core.List.{List}
use native.Mathlib.Omega.{arith}
use Prim.Native.Nat.{ℕ, suc, ◌+◌, ◌*◌}
use lib.ListN.{set}
use Rattle.falling.proofs.cells.fill_at.Goals as goal

pub returns-then-child-eq4294967295 : goal.returns-then-child-eq4294967295
returns-then-child-eq4294967295 c = record { right = λ h. absurd (omega (arith, c.if-child-eq4294967295.true)) }

pub returns : goal.returns
returns c = let x = c.args in let o : x.child + 1 ≡ suc x.child = omega arith in record { right = λ h. c.set_at-2.ensures ∙ ap (λ (z : List ℕ). set z (2 * x.slot + 1) x.hint) (c.set_at.ensures ∙ ap (set x.line.now (2 * x.slot)) o) }
