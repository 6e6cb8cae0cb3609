-- `cells::is_low` meets its contract: an empty cell has no child to lie below, another names one by its slot. Assumes nothing.
use mathlib.Core.Path.{sym, ◌∙◌}
use native.Mathlib.Omega.{arith}
use Prim.Native.Nat.{◌-◌}
use Rattle.falling.specs.Cells.{slot_pair}
use Rattle.falling.proofs.Lowest.{low-empty, low-some}
use Rattle.falling.proofs.cells.is_low.Goals as goal

pub returns-then-cell-eq0 : goal.returns-then-cell-eq0
returns-then-cell-eq0 c = let x = c.args in low-empty x.levels.now x.times.now _ (slot_pair x.levels.now x.times.now x.slot) (sym c.at-cell.ensures ∙ c.if-cell-eq0.true)

pub returns : goal.returns
returns c = let x = c.args in c.is_below.ensures ∙ low-some x.levels.now x.times.now _ (c.at-cell.result - 1) (slot_pair x.levels.now x.times.now x.slot) (sym c.at-cell.ensures ∙ omega (arith, c.if-cell-eq0.false))
