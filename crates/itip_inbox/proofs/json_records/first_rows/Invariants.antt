use Rattle.std.proofs.Common.{List}
use Rattle.itip_view.specs.ByUid.{AreLeft, uids_left}
use Rattle.itip_view.specs.declared.row.Row.{Row}
use Rattle.itip_inbox.proofs.json_records.first_rows.Given as goal

abbrev pub invariant-loop-some : goal.invariant-loop-some
invariant-loop-some l = (all : List Row) → AreLeft l.fn.rows all → AreLeft l.rows all

abbrev pub decreases-loop-some : goal.decreases-loop-some
decreases-loop-some l = uids_left l.rows
