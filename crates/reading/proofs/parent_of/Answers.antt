-- `reading::parent_of` meets its contract: the parent of the row or of the body that was read. Assumes nothing.
use mathlib.Core.Path.{refl}
use Rattle.reading.proofs.Whole.{parent_of_row, parent_of_body, parent_of_failed}
use borrow.Author.Rules.{rules}
use Rattle.reading.proofs.parent_of.Goals as goal

pub returns-in-Row : goal.returns-in-Row
returns-in-Row c = rw c.in-Row.is (parent_of_row _ _ _ c.layout_of.ensures c.row_parent.ensures c.id_of.ensures)

pub returns-in-Body : goal.returns-in-Body
returns-in-Body c = rw c.in-Body.is (parent_of_body _ _ _ _ c.body.ensures c.body_parent.ensures)

pub returns-in-Failed : goal.returns-in-Failed
returns-in-Failed c = rw c.in-Failed.is (parent_of_failed _ refl)
