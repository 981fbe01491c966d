use Rattle.std.proofs.Common.{map}
use Rattle.std.specs.String.{string_bytes}
use Rattle.itip_report.specs.declared.report_name.ReportName.TheVariants as name
use Rattle.itip_report.proofs.NamedReports.{told_by, told_if_few, told_of_kept}
use Rattle.itip_report.proofs.named.lines_by_name.Goals as goal

pub returns-in-Load : goal.returns-in-Load
returns-in-Load c =
    told_if_few c.load_of.result (λ lines. map string_bytes lines.items) c.args.name name.Load c.args.state.now c.args.rows c.in-Load.is
    tt c.load_of.ensures

pub returns-in-Progress : goal.returns-in-Progress
returns-in-Progress c =
    told_by c.progress_of.result (λ lines. map string_bytes lines.items) c.args.name name.Progress c.args.state.now c.args.rows
    c.in-Progress.is c.progress_of.ensures

pub returns-in-Cancelled : goal.returns-in-Cancelled
returns-in-Cancelled c =
    told_of_kept c.cancelled.result (λ lines. map string_bytes lines.items) c.args.name name.Cancelled c.args.state.now c.args.rows
    c.in-Cancelled.is (λ h. h) c.cancelled.ensures.lines

pub returns-in-Orphans : goal.returns-in-Orphans
returns-in-Orphans c =
    told_of_kept c.orphans.result (λ lines. map string_bytes lines.items) c.args.name name.Orphans c.args.state.now c.args.rows
    c.in-Orphans.is (λ h. h) c.orphans.ensures.lines

pub returns-in-Refresh : goal.returns-in-Refresh
returns-in-Refresh c =
    told_of_kept c.refresh_wanted.result (λ lines. map string_bytes lines.items) c.args.name name.Refresh c.args.state.now c.args.rows
    c.in-Refresh.is (λ h. h) c.refresh_wanted.ensures.lines
