-- `put::answer` meets its contract: by its outcome. Assumes nothing.
use Rattle.swatch.proofs.Puts.{puts_as}
use Rattle.swatch.proofs.Lines.{commit-line, end_line_lem, refusal-line}
use Rattle.swatch.proofs.put.answer.Goals as goal

pub returns-in-Commit : goal.returns-in-Commit
returns-in-Commit c = λ h. puts_as (rw c.id_slice.ensures at (c.commit.ensures h)) (commit-line _ _ _ c.in-Commit.is)

pub returns-in-End : goal.returns-in-End
returns-in-End c = λ h. puts_as c.end.ensures (end_line_lem _ _ _ c.in-End.is)

pub returns-in-Refused : goal.returns-in-Refused
returns-in-Refused c = λ h. puts_as c.refusal.ensures (refusal-line _ _ _ c.in-Refused.is)
