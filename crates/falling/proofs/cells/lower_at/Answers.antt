-- `cells::lower_at` meets its contract: the cell is lowered, the hint set down. Assumes nothing.
use mathlib.Core.Path.{◌∙◌, ap}
use mathlib.Core.List.{List}
use Prim.Native.Nat.{ℕ, ◌+◌, ◌*◌}
use lib.ListN.{set}
use Rattle.falling.specs.Cells.{lowered}
use Rattle.falling.proofs.cells.lower_at.Goals as goal

pub returns : goal.returns
returns c = let x = c.args in record { right = λ h. c.set_at-2.ensures ∙ ap (λ (z : List ℕ). set z (2 * x.slot + 1) x.hint) (c.set_at.ensures ∙ ap (set x.line.now (2 * x.slot)) (c.lower-cell.ensures h ∙ ap (lowered x.levels.now x.times.now x.child) c.at.ensures)) }
