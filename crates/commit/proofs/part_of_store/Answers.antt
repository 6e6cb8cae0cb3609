-- `commit::part_of_store` meets its contract: a body is cut out of the store, and of any other answer nothing is. Assumes nothing.
use mathlib.Core.Path.{◌≡◌}
use Rattle.hash.specs.Bytes.{at}
use Rattle.commit.specs.Find.{part_in_store}
use borrow.Author.Rules.{rules}
use Rattle.commit.proofs.part_of_store.Goals as goal

pub returns-in-CachedCommit : goal.returns-in-CachedCommit
unfolding part_in_store at
returns-in-CachedCommit c = rw c.in-CachedCommit.is c.bytes.ensures

pub returns-in-CommitRefIter : goal.returns-in-CommitRefIter
unfolding part_in_store
returns-in-CommitRefIter c = rw c.in-CommitRefIter.is c.bytes-in-CommitRefIter.ensures

pub returns-in-Absent : goal.returns-in-Absent
unfolding part_in_store at
returns-in-Absent c = rw c.in-Absent.is c.bytes-in-Absent.ensures
