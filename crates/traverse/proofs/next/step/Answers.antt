-- `next::step` meets its contract: 12 for a record or memory that is not whole, else the next commit, of a painted state or by the first call.
-- Assumes nothing.
use mathlib.Core.Path.{refl}
use borrow.Author.Tests.{not-true, not-false}
use Rattle.traverse.specs.Contract.{lengths_of}
use Rattle.traverse.proofs.NextSaid.{taken-goes, closed-says, goes-says}
use Rattle.traverse.proofs.next.step.Goals as goal

pub shape_of-names-then-not-is_whole : goal.shape_of-names-then-not-is_whole
shape_of-names-then-not-is_whole c = refl

pub shape_of-marks-then-not-is_whole : goal.shape_of-marks-then-not-is_whole
shape_of-marks-then-not-is_whole c = refl

pub shape_of-levels-then-not-is_whole : goal.shape_of-levels-then-not-is_whole
shape_of-levels-then-not-is_whole c = refl

pub shape_of-times-then-not-is_whole : goal.shape_of-times-then-not-is_whole
shape_of-times-then-not-is_whole c = refl

pub shape_of-line-then-not-is_whole : goal.shape_of-line-then-not-is_whole
shape_of-line-then-not-is_whole c = refl

pub shape_of-parents-then-not-is_whole : goal.shape_of-parents-then-not-is_whole
shape_of-parents-then-not-is_whole c = refl

pub returns-then-not-is_whole : goal.returns-then-not-is_whole
unfolding lengths_of
returns-then-not-is_whole c = let w = c.is_whole in
    closed-says w.ensures c.if-not-is_whole.true c.closed.ensures

pub shape_of-names-then-record : goal.shape_of-names-then-record
shape_of-names-then-record c = c.next_by_topology_or_commit_date.auto.names

pub shape_of-marks-then-record : goal.shape_of-marks-then-record
shape_of-marks-then-record c = c.next_by_topology_or_commit_date.auto.marks

pub shape_of-levels-then-record : goal.shape_of-levels-then-record
shape_of-levels-then-record c = c.next_by_topology_or_commit_date.auto.levels

pub shape_of-times-then-record : goal.shape_of-times-then-record
shape_of-times-then-record c = c.next_by_topology_or_commit_date.auto.times

pub shape_of-line-then-record : goal.shape_of-line-then-record
shape_of-line-then-record c = c.next_by_topology_or_commit_date.auto.line

pub shape_of-parents-then-record : goal.shape_of-parents-then-record
shape_of-parents-then-record c = c.next_by_topology_or_commit_date.auto.parents

pub returns-then-record : goal.returns-then-record
unfolding lengths_of
returns-then-record c =
    let w = c.is_whole in
    let k = c.next_by_topology_or_commit_date.auto in
    goes-says w.ensures (c.if-not-is_whole.false) c.if-record.true (taken-goes _ c.next_by_topology_or_commit_date.ensures.0 c.next_by_topology_or_commit_date.ensures.1 k.parents c.after.ensures)
    (λ i. record { names = k.names i; marks = k.marks i; levels = k.levels i; times = k.times i; line = k.line i; parents = k.parents i })

pub shape_of-names : goal.shape_of-names
shape_of-names c = c.first_call.auto.names

pub shape_of-marks : goal.shape_of-marks
shape_of-marks c = c.first_call.auto.marks

pub shape_of-levels : goal.shape_of-levels
shape_of-levels c = c.first_call.auto.levels

pub shape_of-times : goal.shape_of-times
shape_of-times c = c.first_call.auto.times

pub shape_of-line : goal.shape_of-line
shape_of-line c = c.first_call.auto.line

pub shape_of-parents : goal.shape_of-parents
shape_of-parents c = c.first_call.auto.parents

pub returns : goal.returns
unfolding lengths_of
returns c =
    let w = c.is_whole in
    let k = c.first_call.auto in
    goes-says w.ensures (c.if-not-is_whole.false) c.if-record.false c.first_call.ensures
    (λ i. record { names = k.names i; marks = k.marks i; levels = k.levels i; times = k.times i; line = k.line i; parents = k.parents i })
