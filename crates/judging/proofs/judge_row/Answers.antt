-- `judge_row` meets its contract: the row beside the body, the body alone, or a row that cannot be read. Assumes nothing.
use Rattle.judging.proofs.Judging.{judge-agrees, judge-odds, judge-body, judge-failed}
use Rattle.judging.proofs.judge_row.Goals as goal

pub returns-then-row_agrees : goal.returns-then-row_agrees
returns-then-row_agrees c = judge-agrees c.read_commit.ensures _ _ _ c.in-Row.is c.layout_of-l.ensures c.row_agrees.ensures c.if-row_agrees.true

pub returns-else-row_agrees : goal.returns-else-row_agrees
returns-else-row_agrees c = judge-odds c.read_commit.ensures _ _ _ c.in-Row.is c.layout_of-l.ensures c.row_agrees.ensures c.if-row_agrees.false

pub returns-in-Body : goal.returns-in-Body
returns-in-Body c = judge-body c.read_commit.ensures _ _ _ _ _ c.in-Body.is

pub returns-in-Failed : goal.returns-in-Failed
returns-in-Failed c = judge-failed c.read_commit.ensures _ c.in-Failed.is
