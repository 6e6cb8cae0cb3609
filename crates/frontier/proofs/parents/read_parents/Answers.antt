-- `parents::read_parents` meets its contract: what `find` finds is asked for its parents, a row or a body. Assumes nothing.
use mathlib.Core.Path.{refl, sym, ◌∙◌}
use Rattle.commit.proofs.Parts.{found-slice}
use Rattle.frontier.proofs.ReadAgain.{found-again, body_lines}
use Rattle.frontier.proofs.parents.read_parents.Goals as goal

pub returns-in-CachedCommit : goal.returns-in-CachedCommit
returns-in-CachedCommit c = found-again _ c.find-at.ensures c.in-CachedCommit.is (rw (sym c.layout_of.ensures) c.row_parents.ensures)

pub returns-in-CommitRefIter : goal.returns-in-CommitRefIter
returns-in-CommitRefIter c = found-again _ c.find-at.ensures c.in-CommitRefIter.is (body_lines _ _ _ c.body_parents.ensures (c.part_of_store.ensures ∙ found-slice c.find-at.ensures _ _ c.in-CommitRefIter.is))

pub returns-in-Absent : goal.returns-in-Absent
returns-in-Absent c = found-again _ c.find-at.ensures c.in-Absent.is refl
