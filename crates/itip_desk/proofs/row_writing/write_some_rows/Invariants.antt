use Rattle.std.proofs.Common.{◌++◌, take}
use Rattle.std.specs.List.{flat_map}
use Rattle.itip_streams.specs.Written.{MovesOut}
use Rattle.itip_desk.proofs.row_writing.write_some_rows.Given as goal

abbrev pub invariant-loop-row : goal.invariant-loop-row
invariant-loop-row g l =
    MovesOut (g.W.Write.contents l.fn.writer) (g.W.Write.contents l.writer)
    (l.fn.kept.items ++ flat_map (g.F.RowForm.octets l.form) (take l.row-index l.rows))
    l.kept.items
