-- `report_of` meets its contract: by the outcome of the opening. Assumes nothing.
use Rattle.std.specs.Prelude.{Result}
use Rattle.walk.specs.declared.Refusal.{Refusal}
use mathlib.Core.Path.{sym, ◌∙◌, ap}
use Rattle.reports.specs.Report.{opened_by}
use borrow.Author.Rules.{rules}
use Rattle.reports.proofs.refused_report.Reads as refused-report-reads
use Rattle.reports.proofs.report_after.Reads as report-after-reads
use Rattle.reports.proofs.report_of.Goals as goal

pub returns-in-Err : goal.returns-in-Err
returns-in-Err c = let d = c.args.d in c.refused_report.ensures ∙ ap (λ (o : Result (Unit {0}) Refusal). opened_by o d.tally.reason d.tally.feeds) (sym c.in-Err.is)

pub returns-in-Ok : goal.returns-in-Ok
returns-in-Ok c = let d = c.args.d in c.report_after.ensures ∙ ap (λ (o : Result (Unit {0}) Refusal). opened_by o d.tally.reason d.tally.feeds) (sym c.in-Ok.is)
