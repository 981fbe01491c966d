use Rattle.std.proofs.Common.{◌≡◌, map, take}
use Rattle.itip_report.specs.Records.{progress_records}
use Rattle.itip_report.proofs.records.progress_records.Given as goal

abbrev pub invariant-loop-row : goal.invariant-loop-row
invariant-loop-row l = map (λ r. record { row = r.row.now; percent = r.percent }) l.records.items ≡ progress_records
    (take l.row-index l.rows)
