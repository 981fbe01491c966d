use Rattle.std.proofs.Common.{◌≡◌, map, take}
use Rattle.std.specs.String.{string_bytes}
use Rattle.itip_report.specs.Progress.{progress_lines}
use Rattle.itip_report.proofs.row_progress.progress.Given as goal

abbrev pub invariant-loop-row : goal.invariant-loop-row
invariant-loop-row l = map string_bytes l.lines.items ≡ progress_lines (take l.row-index l.rows)
