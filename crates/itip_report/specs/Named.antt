-- The lines of each report by its name, over what was heard (our own rules and format).
use Rattle.std.specs.Prelude.{◌≡◌, ◌≤◌, ℕ, List, length}
use Rattle.itip_items.specs.declared.item.Item.{Item}
use Rattle.itip_view.specs.ByUid.{AreAsked}
use Rattle.itip_view.specs.Rows.{AreRows, row_limit}
use Rattle.itip_view.specs.declared.by_uid.RowsByUid.{RowsByUid}
use Rattle.itip_view.specs.declared.row.Row.{Row}
use Rattle.itip_view.specs.declared.window.Window.{Window}
use Rattle.itip_report.specs.Load.{load_lines}
use Rattle.itip_report.specs.Progress.{progress_lines}
use Rattle.itip_report.specs.Reports.{AreReportLines}
use Rattle.itip_report.specs.declared.report.Report.TheVariants as report
use Rattle.itip_report.specs.declared.report_name.ReportName.{ReportName}
use Rattle.itip_report.specs.declared.report_name.ReportName.TheVariants as name

-- The lines tell of the rows of the window, and these are at most as many as the limit.
pub record TellOfRows (tell : List Row → List (List ℕ)) (heard : List Item) (window : Window) (lines : List (List ℕ)) : Type 0 where
  pub rows : List Row
  pub are_rows : AreRows heard window rows
  pub few : length rows ≤ row_limit
  pub lines_are : lines ≡ tell rows

-- the lines of a report over what was heard
abbrev pub IsReportOf : ReportName → List Item → Window → List (List ℕ) → Type 0
IsReportOf name.Load heard window lines = TellOfRows load_lines heard window lines
IsReportOf name.Progress heard window lines = TellOfRows progress_lines heard window lines
IsReportOf name.Cancelled heard window lines = AreReportLines report.Cancelled heard lines
IsReportOf name.Orphans heard window lines = AreReportLines report.Orphans heard lines
IsReportOf name.Refresh heard window lines = AreReportLines report.Refresh heard lines

-- the reports that tell of the rows of the window
abbrev pub IsOfRows : ReportName → Type 0
IsOfRows name.Load = Unit {0}
IsOfRows name.Progress = Unit {0}
IsOfRows name.Cancelled = ⊥
IsOfRows name.Orphans = ⊥
IsOfRows name.Refresh = ⊥

-- If a report tells of rows, these are the rows of the window, and at most as many as the limit.
pub record HasRowsFor (named : ReportName) (heard : List Item) (window : Window) (rows : List Row) : Type 0 where
  pub are_rows : IsOfRows named → AreRows heard window rows
  pub few : IsOfRows named → length rows ≤ row_limit

-- If a report tells of rows, all rows of the window are asked for; otherwise none are.
pub record AreRowsFor (named : ReportName) (heard : List Item) (window : Window) (asked : RowsByUid) : Type 0 where
  pub of_rows : IsOfRows named → AreAsked (λ (row : Row). Unit {0}) heard window asked
  pub none : (¬ IsOfRows named) → AreAsked (λ (row : Row). ⊥) heard window asked
