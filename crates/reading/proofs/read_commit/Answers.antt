-- `reading::read_commit` meets its contract: what `find` finds is read, a row or a body. Assumes nothing.
use mathlib.Core.Path.{refl, sym, ◌∙◌}
use Rattle.commit.proofs.Parts.{found-slice}
use Rattle.reading.proofs.Whole.{reads-found, body-commit}
use borrow.Author.Rules.{rules}
use Rattle.reading.proofs.read_commit.Goals as goal

pub returns-in-CachedCommit : goal.returns-in-CachedCommit
returns-in-CachedCommit c = reads-found _ c.find-at.ensures c.in-CachedCommit.is (rw (sym c.layout_of.ensures) c.row_commit.ensures)

pub returns-in-CommitRefIter : goal.returns-in-CommitRefIter
returns-in-CommitRefIter c = reads-found _ c.find-at.ensures c.in-CommitRefIter.is (body-commit _ _ _ c.body_commit.ensures (c.part_of_store.ensures ∙ found-slice c.find-at.ensures _ _ c.in-CommitRefIter.is))

pub returns-in-Absent : goal.returns-in-Absent
returns-in-Absent c = reads-found _ c.find-at.ensures c.in-Absent.is refl
