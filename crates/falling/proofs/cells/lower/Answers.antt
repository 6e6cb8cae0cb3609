-- `cells::lower` meets its contract: the child with the lesser pair stays. Assumes nothing.
use mathlib.Core.Path.{sym, ◌∙◌}
use native.Mathlib.Omega.{arith}
use Prim.Native.Nat.{◌-◌}
use Rattle.falling.proofs.Lowest.{cell-first, cell-less, cell_stays}
use Rattle.falling.proofs.cells.lower.Goals as goal

pub returns-then-cell-eq0 : goal.returns-then-cell-eq0
returns-then-cell-eq0 c = let x = c.args in λ h. cell-first x.levels.now x.times.now x.child x.cell c.if-cell-eq0.true

pub returns-then-is_below : goal.returns-then-is_below
returns-then-is_below c = let x = c.args in λ h. cell-less x.levels.now x.times.now x.child x.cell (x.cell - 1) (omega (arith, c.if-cell-eq0.false)) (sym c.is_below.ensures ∙ c.if-is_below.true)

pub returns : goal.returns
returns c = let x = c.args in λ h. cell_stays x.levels.now x.times.now x.child x.cell (x.cell - 1) (omega (arith, c.if-cell-eq0.false)) (sym c.is_below.ensures ∙ c.if-is_below.false)
