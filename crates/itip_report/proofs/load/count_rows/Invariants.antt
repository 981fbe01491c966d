use Rattle.std.proofs.Common.{◌≤◌, ◌+◌, ◌++◌, List, length, take}
use Rattle.itip_view.specs.declared.row.Row.{Row}
use Rattle.itip_report.specs.Tally.{AreTallied}
use Rattle.itip_report.proofs.load.count_rows.Given as goal

abbrev pub invariant-loop-row : goal.invariant-loop-row
invariant-loop-row l =
    (done : List Row) → length done + length l.rows ≤ 18446744073709551615 → AreTallied done l.initial.tally →
    AreTallied (done ++ take l.row-index l.rows) l.tally
