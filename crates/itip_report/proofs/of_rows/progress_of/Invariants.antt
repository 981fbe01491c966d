use Rattle.std.proofs.Common.{List, map}
use Rattle.std.specs.String.{string_bytes}
use Rattle.itip_view.specs.ByUid.{AreLeft, uids_left}
use Rattle.itip_view.specs.declared.row.Row.{Row}
use Rattle.itip_report.proofs.RowReports.{TellsSoFar}
use Rattle.itip_report.proofs.of_rows.progress_of.Given as goal

abbrev pub invariant-loop-lines : goal.invariant-loop-lines
invariant-loop-lines l =
    (all : List Row) → AreLeft l.initial.rows all → TellsSoFar l.rows all (map string_bytes l.lines.items)

abbrev pub decreases-loop-lines : goal.decreases-loop-lines
decreases-loop-lines l = uids_left l.rows
