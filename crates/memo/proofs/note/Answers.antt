-- `note` meets its contract: where there is a cell, it stands in the memo. Assumes nothing.
use mathlib.Core.Path.{sym, ◌∙◌}
use native.Mathlib.Omega.{arith}
use Rattle.memo.specs.Cells.{row_cells}
use Rattle.memo.proofs.Cells.{note_none, note_cell, row_within, row_starts, cell_of}
use borrow.Author.Rules.{rules}
use Rattle.memo.proofs.note.Reads as reads
use Rattle.memo.proofs.code.Reads as code_Reads
use Rattle.memo.proofs.has_cell.Reads as has-cell-reads
use Rattle.memo.proofs.side.Reads as side-reads
use Rattle.memo.proofs.note.Goals as goal

-- src/lib.rt:64:14
pub overflow_mul-memo : goal.overflow_mul-memo
overflow_mul-memo c = let x = c.args in let r = row_starts _ x.n x.k x.d (sym c.has_cell.ensures ∙ c.if-has_cell.true) in record { fits = omega (arith, r, c.well_formed.0.0) }

-- src/lib.rt:64:30
pub side-requires : goal.side-requires
side-requires c = let x = c.args in (cell_of _ x.n x.k x.d (sym c.has_cell.ensures ∙ c.if-has_cell.true)).moves

-- src/lib.rt:64:14
pub overflow_add-memo : goal.overflow_add-memo
overflow_add-memo c = let x = c.args in let r = row_within _ x.n x.k x.d c.side.result (sym c.has_cell.ensures ∙ c.if-has_cell.true) c.side.ensures.1 in record { fits = omega (arith, r, c.well_formed.0.0) }

-- src/lib.rt:64:9
pub bounds-memo-k : goal.bounds-memo-k
bounds-memo-k c = let x = c.args in row_within _ x.n x.k x.d c.side.result (sym c.has_cell.ensures ∙ c.if-has_cell.true) c.side.ensures.1

-- src/lib.rt:60:1
pub returns-then-has_cell : goal.returns-then-has_cell
returns-then-has_cell c = let x = c.args in note_cell x.memo.now x.n x.k x.bed x.d x.so c.side.result c.code.result (sym c.has_cell.ensures ∙ c.if-has_cell.true) c.side.ensures.0 c.code.ensures

-- src/lib.rt:60:1
pub returns-else-has_cell : goal.returns-else-has_cell
returns-else-has_cell c = let x = c.args in note_none x.memo.now x.n x.k x.bed x.d x.so (sym c.has_cell.ensures ∙ c.if-has_cell.false)
