-- The names of the reports of a desk (our own format).
use Rattle.std.specs.Prelude.{ℕ, List, codes}
use Rattle.itip_report.specs.declared.report_name.ReportName.{ReportName}
use Rattle.itip_report.specs.declared.report_name.ReportName.TheVariants as name

abbrev pub name_text : ReportName → List ℕ
name_text name.Load = codes "load"
name_text name.Progress = codes "progress"
name_text name.Cancelled = codes "cancelled"
name_text name.Orphans = codes "orphans"
name_text name.Refresh = codes "refresh"
