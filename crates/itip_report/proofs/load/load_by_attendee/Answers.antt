use Rattle.std.proofs.Common.{◌≡◌, ◌≤◌, ◌+◌, [], List, length, map, arith}
use Rattle.std.specs.String.{string_bytes}
use Rattle.itip_state.proofs.Members.{if_ok_then}
use Rattle.itip_state.proofs.Nothing.{not_ok}
use Rattle.itip_view.specs.declared.row.Row.{Row}
use Rattle.itip_report.specs.Load.{load_lines}
use Rattle.itip_report.specs.Tally.{AreTallied}
use Rattle.itip_report.proofs.Nothing.{none_counted, none_shown}
use Rattle.itip_report.proofs.load.load_by_attendee.Goals as goal

pub returns-clause-lines : goal.returns-clause-lines
returns-clause-lines c =
    let rows : List Row = c.args.rows.now in
    let few : 0 + length rows ≤ 18446744073709551615 = omega arith in
    if_ok_then (λ lines. (done : List Row) → AreTallied done c.count_rows.new.tally → map string_bytes lines.items ≡ load_lines done)
    (λ lines. map string_bytes lines.items ≡ load_lines rows) c.tallied_lines.result
    (λ lines told. told rows (c.in_ok-count_rows.ensures.counted [] few c.new-tally.ensures)) c.tallied_lines.ensures.lines

pub returns-clause-succeeds : goal.returns-clause-succeeds
returns-clause-succeeds c = λ none.
    let few : 0 + length c.args.rows.now ≤ 18446744073709551615 = omega arith in
    c.tallied_lines.ensures.succeeds
    (none_counted c.args.rows.now c.count_rows.new.tally (c.in_ok-count_rows.ensures.counted [] few c.new-tally.ensures) none)

pub returns-in_err-count_rows-clause-succeeds : goal.returns-in_err-count_rows-clause-succeeds
returns-in_err-count_rows-clause-succeeds c = λ none. not_ok (c.in_err-count_rows.ensures.succeeds (none_shown c.args.rows.now none))
