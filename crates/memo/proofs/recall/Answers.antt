-- `recall` meets its contract: where there is a cell, it stands in the memo. Assumes nothing.
use mathlib.Core.Path.{sym, ◌∙◌}
use native.Mathlib.Omega.{arith}
use borrow.Author.Tests.{not-true, not-false}
use Rattle.memo.specs.Cells.{row_cells}
use Rattle.memo.proofs.Cells.{recall_none, recall_cell, row_within, row_starts, cell_of}
use borrow.Author.Rules.{rules}
use Rattle.memo.proofs.recall.Reads as reads
use Rattle.memo.proofs.has_cell.Reads as has-cell-reads
use Rattle.memo.proofs.side.Reads as side-reads
use Rattle.memo.proofs.recall.Goals as goal

-- src/lib.rt:47:9
pub returns-then-not-has_cell : goal.returns-then-not-has_cell
returns-then-not-has_cell c = let x = c.args in recall_none x.memo.now x.n x.k x.bed x.d (sym c.has_cell.ensures ∙ c.if-not-has_cell.true)

-- src/lib.rt:49:10
pub overflow_mul-result : goal.overflow_mul-result
overflow_mul-result c = let x = c.args in let r = row_starts _ x.n x.k x.d (sym c.has_cell.ensures ∙ c.if-not-has_cell.false) in record { fits = omega (arith, r, c.well_formed.0.0) }

-- src/lib.rt:49:26
pub side-requires : goal.side-requires
side-requires c = let x = c.args in (cell_of _ x.n x.k x.d (sym c.has_cell.ensures ∙ c.if-not-has_cell.false)).moves

-- src/lib.rt:49:10
pub overflow_add-result : goal.overflow_add-result
overflow_add-result c = let x = c.args in let r = row_within _ x.n x.k x.d c.side.result (sym c.has_cell.ensures ∙ c.if-not-has_cell.false) c.side.ensures.1 in record { fits = omega (arith, r, c.well_formed.0.0) }

-- src/lib.rt:49:5
pub bounds-memo-k : goal.bounds-memo-k
bounds-memo-k c = let x = c.args in row_within _ x.n x.k x.d c.side.result (sym c.has_cell.ensures ∙ c.if-not-has_cell.false) c.side.ensures.1

-- src/lib.rt:43:1
pub returns : goal.returns
returns c = let x = c.args in recall_cell x.memo.now x.n x.k x.bed x.d c.side.result (sym c.has_cell.ensures ∙ c.if-not-has_cell.false) c.side.ensures.0
