-- `report_after` meets its contract: by the cases of the first refusal. Assumes nothing.
use mathlib.Core.Path.{sym, ◌∙◌, ap}
use Rattle.walk.specs.declared.Outcome.{Outcome}
use Rattle.reports.specs.Report.{report_after}
use borrow.Author.Rules.{rules}
use Rattle.reports.proofs.refused_report.Reads as refused-report-reads
use Rattle.reports.proofs.whole_report.Reads as whole-report-reads
use Rattle.reports.proofs.report_after.Goals as goal

pub returns-in-Refused : goal.returns-in-Refused
returns-in-Refused c = c.refused_report.ensures ∙ ap (λ (o : Outcome). report_after o c.args.f) (sym c.in-Refused.is)

pub returns-in-Commit : goal.returns-in-Commit
returns-in-Commit c = c.whole_report.ensures ∙ ap (λ (o : Outcome). report_after o c.args.f) (sym c.in-Commit.is)

pub returns-in-End : goal.returns-in-End
returns-in-End c = c.whole_report-in-End.ensures ∙ ap (λ (o : Outcome). report_after o c.args.f) (sym c.in-End.is)
