use Rattle.std.proofs.Common.{List}
use Rattle.itip_view.specs.ByUid.{AreLeft, uids_left}
use Rattle.itip_view.specs.declared.row.Row.{Row}
use Rattle.itip_desk.proofs.WritingRows.{WritesSoFar}
use Rattle.itip_desk.proofs.row_writing.write_rows.Given as goal

abbrev pub invariant-loop-rows : goal.invariant-loop-rows
invariant-loop-rows g l =
    (all : List Row) → AreLeft l.initial.rows all →
    WritesSoFar (g.F.RowForm.octets l.initial.form) l.rows all (g.W.Write.contents l.fn.writer) (g.W.Write.contents l.writer)
    l.fn.kept.items l.kept.items

abbrev pub decreases-loop-rows : goal.decreases-loop-rows
decreases-loop-rows g l = uids_left l.rows
