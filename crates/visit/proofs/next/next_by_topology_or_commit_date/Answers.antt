-- `visit::next::next_by_topology_or_commit_date` meets its contract: what `find` finds of the front decides the case, as in the walk. Assumes nothing.
use mathlib.Core.Path.{◌∙◌, refl}
use Rattle.visit.proofs.Past.{plain_end}
use Rattle.visit.proofs.Takings.{next-none, next-cached, next-body, next-absent, plain-absent}
use Rattle.state.specs.Shapes.{waiting_in}
use Rattle.visit.proofs.next.next_by_topology_or_commit_date.Goals as goal

pub returns-in_default : goal.returns-in_default
returns-in_default c = rw c.end_walk.ensures (next-none c.in_default.ensures, plain_end c.args.r)

pub shape_of-names-in-CachedCommit : goal.shape_of-names-in-CachedCommit
shape_of-names-in-CachedCommit c = c.take_cached.auto.names

pub shape_of-marks-in-CachedCommit : goal.shape_of-marks-in-CachedCommit
shape_of-marks-in-CachedCommit c = c.take_cached.auto.marks

pub shape_of-levels-in-CachedCommit : goal.shape_of-levels-in-CachedCommit
shape_of-levels-in-CachedCommit c = c.take_cached.auto.levels

pub shape_of-times-in-CachedCommit : goal.shape_of-times-in-CachedCommit
shape_of-times-in-CachedCommit c = c.take_cached.auto.times

pub shape_of-line-in-CachedCommit : goal.shape_of-line-in-CachedCommit
shape_of-line-in-CachedCommit c = c.take_cached.auto.line ∙ c.pop.auto.line

pub shape_of-parents-in-CachedCommit : goal.shape_of-parents-in-CachedCommit
shape_of-parents-in-CachedCommit c = c.take_cached.auto.parents

pub returns-in-CachedCommit : goal.returns-in-CachedCommit
returns-in-CachedCommit c = (next-cached c.in-Some.ensures c.look_up.ensures c.in-CachedCommit.position c.in-CachedCommit.start c.in-CachedCommit.end c.in-CachedCommit.is c.take_cached.ensures, c.take_cached.ensures.plain)

pub shape_of-names-in-CommitRefIter : goal.shape_of-names-in-CommitRefIter
shape_of-names-in-CommitRefIter c = c.take_body.auto.names

pub shape_of-marks-in-CommitRefIter : goal.shape_of-marks-in-CommitRefIter
shape_of-marks-in-CommitRefIter c = c.take_body.auto.marks

pub shape_of-levels-in-CommitRefIter : goal.shape_of-levels-in-CommitRefIter
shape_of-levels-in-CommitRefIter c = c.take_body.auto.levels

pub shape_of-times-in-CommitRefIter : goal.shape_of-times-in-CommitRefIter
shape_of-times-in-CommitRefIter c = c.take_body.auto.times

pub shape_of-line-in-CommitRefIter : goal.shape_of-line-in-CommitRefIter
shape_of-line-in-CommitRefIter c = c.take_body.auto.line ∙ c.pop.auto.line

pub shape_of-parents-in-CommitRefIter : goal.shape_of-parents-in-CommitRefIter
shape_of-parents-in-CommitRefIter c = c.take_body.auto.parents

pub returns-in-CommitRefIter : goal.returns-in-CommitRefIter
returns-in-CommitRefIter c = (next-body c.in-Some.ensures c.look_up.ensures c.in-CommitRefIter.start c.in-CommitRefIter.end c.in-CommitRefIter.is c.part_of_store.ensures c.take_body.ensures, c.take_body.ensures.plain)

pub shape_of-names-in-Absent : goal.shape_of-names-in-Absent
shape_of-names-in-Absent c = refl

pub shape_of-levels-in-Absent : goal.shape_of-levels-in-Absent
shape_of-levels-in-Absent c = refl

pub shape_of-times-in-Absent : goal.shape_of-times-in-Absent
shape_of-times-in-Absent c = refl

pub shape_of-line-in-Absent : goal.shape_of-line-in-Absent
shape_of-line-in-Absent c = c.pop.auto.line

pub returns-in-Absent : goal.returns-in-Absent
returns-in-Absent c = rw c.refuse.ensures (next-absent c.in-Some.ensures c.look_up.ensures c.in-Absent.is, plain-absent (waiting_in c.args.r c.in-Some.top.rest))
