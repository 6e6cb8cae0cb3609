-- `commit::part` meets its contract: each arm returns the part of its own file. Assumes nothing.
use mathlib.Core.Path.{◌≡◌, ◌∙◌}
use Rattle.commit.specs.Find.{part_in_graph, part_in_store, part_of}
use borrow.Author.Rules.{rules}
use Rattle.commit.proofs.part.Goals as goal

pub returns-in-CachedCommit : goal.returns-in-CachedCommit
unfolding part_in_graph part_of
returns-in-CachedCommit c = c.part_of_graph.ensures ∙ rw c.in-CachedCommit.is

pub returns-in-CommitRefIter : goal.returns-in-CommitRefIter
unfolding part_in_store part_of
returns-in-CommitRefIter c = c.part_of_store.ensures ∙ rw c.in-CommitRefIter.is

pub returns-in-Absent : goal.returns-in-Absent
unfolding part_in_store part_of
returns-in-Absent c = c.part_of_store-in-Absent.ensures ∙ rw c.in-Absent.is
