use Rattle.std.proofs.Common.{◌≡◌, ◌≤◌, ◌+◌, [], List, length, arith}
use Rattle.itip_state.proofs.Members.{if_ok_then}
use Rattle.itip_state.proofs.Nothing.{not_ok}
use Rattle.itip_view.specs.declared.row.Row.{Row}
use Rattle.itip_report.specs.Records.{load_records}
use Rattle.itip_report.specs.Tally.{AreTallied}
use Rattle.itip_report.proofs.Nothing.{none_counted_of, none_recorded}
use Rattle.itip_report.proofs.load.load_records.Goals as goal

pub returns-clause-records : goal.returns-clause-records
returns-clause-records c =
    let rows : List Row = c.args.rows.now in
    let few : 0 + length rows ≤ 18446744073709551615 = omega arith in
    if_ok_then (λ loads. (done : List Row) → AreTallied done c.count_rows.new.tally → loads.items ≡ load_records done)
    (λ loads. loads.items ≡ load_records rows) c.tallied_records.result
    (λ loads told. told rows (c.in_ok-count_rows.ensures.counted [] few c.new-tally.ensures)) c.tallied_records.ensures.records

pub returns-clause-succeeds : goal.returns-clause-succeeds
returns-clause-succeeds c = λ none.
    let few : 0 + length c.args.rows.now ≤ 18446744073709551615 = omega arith in
    c.tallied_records.ensures.succeeds
    (none_counted_of c.args.rows.now c.count_rows.new.tally (c.in_ok-count_rows.ensures.counted [] few c.new-tally.ensures) none)

pub returns-in_err-count_rows-clause-succeeds : goal.returns-in_err-count_rows-clause-succeeds
returns-in_err-count_rows-clause-succeeds c = λ none. not_ok (c.in_err-count_rows.ensures.succeeds (none_recorded c.args.rows.now none))
