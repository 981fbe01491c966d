use Rattle.std.proofs.Common.{◌≤◌, List, length}
use Rattle.itip_view.specs.ByUid.{AreLeft, uids_left}
use Rattle.itip_view.specs.Rows.{row_limit}
use Rattle.itip_view.specs.declared.row.Row.{Row}
use Rattle.itip_report.proofs.RowReports.{CountsSoFar}
use Rattle.itip_report.proofs.of_rows.load_of.Given as goal

abbrev pub invariant-loop-tally : goal.invariant-loop-tally
invariant-loop-tally l = (all : List Row) → AreLeft l.initial.rows all → length all ≤ row_limit → CountsSoFar l.rows all l.tally

abbrev pub decreases-loop-tally : goal.decreases-loop-tally
decreases-loop-tally l = uids_left l.rows
