-- `commit::part_of_graph` meets its contract: a row is cut out of the file, and of any other answer nothing is. Assumes nothing.
use mathlib.Core.Path.{◌≡◌}
use Rattle.hash.specs.Bytes.{at}
use Rattle.commit.specs.Find.{part_in_graph}
use borrow.Author.Rules.{rules}
use Rattle.commit.proofs.part_of_graph.Goals as goal

pub returns-in-CachedCommit : goal.returns-in-CachedCommit
unfolding part_in_graph
returns-in-CachedCommit c = rw c.in-CachedCommit.is c.bytes.ensures

pub returns-in-CommitRefIter : goal.returns-in-CommitRefIter
unfolding part_in_graph at
returns-in-CommitRefIter c = rw c.in-CommitRefIter.is c.bytes-in-CommitRefIter.ensures

pub returns-in-Absent : goal.returns-in-Absent
unfolding part_in_graph at
returns-in-Absent c = rw c.in-Absent.is c.bytes-in-Absent.ensures
