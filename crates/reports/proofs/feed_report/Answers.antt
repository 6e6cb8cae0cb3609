-- `feed_report` meets its contract: the embargoed list refuses, or the driver's task Feed, as a report. Assumes nothing.
use mathlib.Core.Path.{refl, sym, ◌∙◌}
use Rattle.opening.specs.Checks.{input_of}
use Rattle.reports.specs.Report.{embargo_fault}
use Rattle.reports.proofs.Embargoed.{fault_is, none_is}
use Rattle.reports.proofs.FeedSaid.{low-feeds, feed-says, fault_says}
use borrow.Author.Rules.{rules}
use Rattle.driver.proofs.drive.Reads as drive-reads
use Rattle.reports.proofs.check_embargoed.Reads as check-embargoed-reads
use Rattle.reports.proofs.refused_report.Reads as refused-report-reads
use Rattle.reports.proofs.report_of.Reads as report-of-reads
use Rattle.reports.proofs.withheld.Reads as withheld-reads
use Rattle.reports.proofs.feed_report.Goals as goal

pub report_of-requires : goal.report_of-requires
report_of-requires c = low-feeds c.drive.ensures

pub returns-in-Err : goal.returns-in-Err
returns-in-Err c = let x = c.args in fault_says x.reader c.in-Err.r (fault_is (embargo_fault (input_of x.store.now x.graph.now x.tips.now x.hidden.now x.excluded.now x.settings) x.embargoed.now) _ (sym (c.check_embargoed.ensures x.settings refl) ∙ c.in-Err.is)) c.refused_report.ensures

pub returns-in-Ok : goal.returns-in-Ok
returns-in-Ok c = let x = c.args in feed-says c.drive.ensures c.withheld.ensures (none_is (embargo_fault (input_of x.store.now x.graph.now x.tips.now x.hidden.now x.excluded.now x.settings) x.embargoed.now) (sym (c.check_embargoed.ensures x.settings refl) ∙ c.in-Ok.is)) c.report_of.ensures
