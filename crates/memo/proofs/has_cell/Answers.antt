-- `has_cell` meets its contract: the first test that fails decides. Assumes nothing.
use native.Mathlib.Omega.{arith}
use Rattle.memo.proofs.Cells.{no-entry, no_row, by-moves}
use Rattle.memo.proofs.has_cell.Reads as reads
use Rattle.memo.proofs.has_cell.Goals as goal

-- src/lib.rt:34:9
pub returns-then-n-k : goal.returns-then-n-k
returns-then-n-k c = let x = c.args in no-entry x.len x.n x.k x.d c.if-n-k.true

-- src/lib.rt:37:9
pub returns-then-len-k : goal.returns-then-len-k
returns-then-len-k c = let x = c.args in no_row x.len x.n x.k x.d c.if-n-k.false c.if-len-k.true

-- src/lib.rt:30:1
pub returns : goal.returns
returns c = let x = c.args in by-moves x.len x.n x.k x.d c.if-n-k.false c.if-len-k.false
