-- `next::first_call` meets its contract: painting is over and the next commit is taken, or painting does not go on. Assumes nothing.
use mathlib.Core.Path.{◌∙◌}
use Rattle.traverse.proofs.NextSaid.{done-goes, stopped-goes}
use Rattle.traverse.proofs.next.first_call.Goals as goal

pub shape_of-names-in-Ok : goal.shape_of-names-in-Ok
shape_of-names-in-Ok c = c.next_by_topology_or_commit_date.auto.names ∙ c.compute_hidden_frontier.auto.names

pub shape_of-marks-in-Ok : goal.shape_of-marks-in-Ok
shape_of-marks-in-Ok c = c.next_by_topology_or_commit_date.auto.marks ∙ c.compute_hidden_frontier.auto.marks

pub shape_of-levels-in-Ok : goal.shape_of-levels-in-Ok
shape_of-levels-in-Ok c = c.next_by_topology_or_commit_date.auto.levels ∙ c.compute_hidden_frontier.auto.levels

pub shape_of-times-in-Ok : goal.shape_of-times-in-Ok
shape_of-times-in-Ok c = c.next_by_topology_or_commit_date.auto.times ∙ c.compute_hidden_frontier.auto.times

pub shape_of-line-in-Ok : goal.shape_of-line-in-Ok
shape_of-line-in-Ok c = c.next_by_topology_or_commit_date.auto.line ∙ c.compute_hidden_frontier.auto.line

pub shape_of-parents : goal.shape_of-parents
shape_of-parents c = c.next_by_topology_or_commit_date.auto.parents

pub returns-in-Ok : goal.returns-in-Ok
returns-in-Ok c = done-goes c.compute_hidden_frontier.ensures _ c.in-Ok.is c.next_by_topology_or_commit_date.ensures.0 c.next_by_topology_or_commit_date.ensures.1 c.next_by_topology_or_commit_date.auto.parents c.after.ensures

pub shape_of-names-in-Err : goal.shape_of-names-in-Err
shape_of-names-in-Err c = c.compute_hidden_frontier.auto.names

pub shape_of-marks-in-Err : goal.shape_of-marks-in-Err
shape_of-marks-in-Err c = c.compute_hidden_frontier.auto.marks

pub shape_of-levels-in-Err : goal.shape_of-levels-in-Err
shape_of-levels-in-Err c = c.compute_hidden_frontier.auto.levels

pub shape_of-times-in-Err : goal.shape_of-times-in-Err
shape_of-times-in-Err c = c.compute_hidden_frontier.auto.times

pub shape_of-line-in-Err : goal.shape_of-line-in-Err
shape_of-line-in-Err c = c.compute_hidden_frontier.auto.line

pub returns-in-Err : goal.returns-in-Err
returns-in-Err c = stopped-goes c.compute_hidden_frontier.ensures _ _ c.in-Err.is c.stopped.ensures
