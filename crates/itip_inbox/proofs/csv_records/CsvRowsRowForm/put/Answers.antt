use Rattle.std.proofs.Common.{◌≡◌, ◌==◌, ℕ, List, ◌++◌, sym, ap, ◌∙◌, length}
use Rattle.std.specs.List.{flat_map}
use Rattle.std.proofs.lemmas.Bool.{eqb-true, eqb-false}
use Rattle.std.proofs.lemmas.Result.{on_ok_weaker}
use Rattle.itip_view.specs.declared.row.ShownAttendee.{ShownAttendee}
use Rattle.itip_inbox.specs.Csv.{attendee_record_text}
use Rattle.itip_inbox.proofs.CsvText.{some_records, no_records}
use Rattle.itip_inbox.proofs.csv_records.CsvRowsRowForm.put.Goals as goal

pub returns-then-is_empty : goal.returns-then-is_empty
returns-then-is_empty c =
    let row = c.args.row.now in
    let same : (length row.attendees == 0) ≡ c.is_empty.result =
    ap (λ (xs : List ShownAttendee). length xs == 0) (sym c.as_slice-attendees.ensures) ∙ sym c.is_empty.ensures in
    let none : length row.attendees ≡ 0 = eqb-true (length row.attendees) 0 (same ∙ c.if-is_empty.true) in
    on_ok_weaker c.put_record.result (λ is.
    is ∙ ap (λ (t : List ℕ). c.args.out.now.items ++ t) (no_records row row.attendees none)) c.put_record.ensures

pub returns : goal.returns
returns c =
    let row = c.args.row.now in
    let same : (length row.attendees == 0) ≡ c.is_empty.result =
    ap (λ (xs : List ShownAttendee). length xs == 0) (sym c.as_slice-attendees.ensures) ∙ sym c.is_empty.ensures in
    let some : length row.attendees ≡ 0 → ⊥ = eqb-false (length row.attendees) 0 (same ∙ c.if-is_empty.false) in
    on_ok_weaker c.put_records.result (λ is.
    is ∙ ap (λ (xs : List ShownAttendee). c.args.out.now.items ++ flat_map (attendee_record_text row) xs) c.as_slice-attendees.ensures
    ∙ ap (λ (t : List ℕ). c.args.out.now.items ++ t) (some_records row row.attendees some)) c.put_records.ensures
