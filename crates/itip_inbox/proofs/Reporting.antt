-- The reports over inputs.
use Rattle.std.proofs.Common.{◌≡◌, ◌∙◌, sym, ap, refl, ℕ, Bool, true, false, List, inl, inr, Option}
use Rattle.std.specs.Io.KnownBytes.{Appends}
use Rattle.std.specs.List.{flat_map}
use Rattle.itip_items.specs.declared.item.Item.{Item}
use Rattle.itip_state.specs.Kept.{AreKept}
use Rattle.itip_view.specs.ByUid.{AreLeft, AreFewLeft, AreTooManyLeft}
use Rattle.itip_view.specs.declared.by_uid.RowsByUid.{RowsByUid}
use Rattle.itip_view.specs.declared.row.Row.{Row}
use Rattle.itip_view.specs.declared.window.Window.{Window}
use Rattle.itip_view.proofs.OfKept.{too_many_of_kept}
use Rattle.itip_report.specs.Named.{AreRowsFor, HasRowsFor}
use Rattle.itip_report.specs.declared.report_name.ReportName.{ReportName}
use Rattle.itip_report.proofs.NamedReports.{one_named, named_or_too_many, report_of_kept, has_rows_for, of_rows_if_many, too_many_for}
use Rattle.itip_desk.specs.Refusals.{refused_text}
use Rattle.itip_streams.specs.Written.{AppendsFront}
use Rattle.itip_inbox.specs.OfInbox.{WritesKept, WritesKeptFront}
use Rattle.itip_inbox.specs.Reports.{ended, IsReportText, IsReported}

pub reported_once : (name : ReportName) (heard : List Item) (window : Window) (text other : List ℕ) (refusal more : Bool) →
    IsReported name heard window text refusal → IsReported name heard window other more → text ≡ other
reported_once name heard window text other refusal more (inl a) (inl b) =
    a.0.text_is ∙ ap (λ (lines : List (List ℕ)). flat_map ended lines)
    (one_named heard window name a.0.lines b.0.lines a.0.are_lines b.0.are_lines) ∙ sym b.0.text_is
reported_once name heard window text other refusal more (inl a) (inr b) =
    absurd (named_or_too_many heard window name b.0 a.0.lines a.0.are_lines b.1)
reported_once name heard window text other refusal more (inr a) (inl b) =
    absurd (named_or_too_many heard window name a.0 b.0.lines b.0.are_lines a.1)
reported_once name heard window text other refusal more (inr a) (inr b) = a.2 ∙ sym b.2

-- the text of a report over what is kept is that of what was heard
text_of_kept : (name : ReportName) (kept heard : List Item) → AreKept kept heard → (window : Window) (text : List ℕ) →
    IsReportText name kept window text → IsReportText name heard window text
text_of_kept name kept heard are window text is =
    record { lines = is.lines; are_lines = report_of_kept kept heard are window name is.lines is.are_lines; text_is = is.text_is }

module _ (name : ReportName) (kept : List Item) (window : Window) (asked : RowsByUid) (are_rows : AreRowsFor name kept window asked)
    (old new : Option (List ℕ)) where
  few_reported : (number : ℕ) → AreFewLeft asked number → (text : List ℕ)
      → ((all : List Row) → AreLeft asked all → HasRowsFor name kept window all → IsReportText name kept window text)
      → (heard : List Item) → AreKept kept heard → IsReported name heard window text false
  few_reported number few text is heard are =
      inl (
        text_of_kept name kept heard are window text (is few.rows few.are_left (has_rows_for name kept window asked are_rows number few)),
        refl,
      )

  many_reported : AreTooManyLeft asked → (heard : List Item) → AreKept kept heard → IsReported name heard window (refused_text 31) true
  many_reported many heard are =
      let of_rows = of_rows_if_many name kept window asked are_rows many in
      inr (of_rows, too_many_of_kept kept heard are window (too_many_for name kept window asked are_rows many of_rows), refl, refl)

  module _ (number : ℕ) (few : AreFewLeft asked number) (text : List ℕ)
      (is : (all : List Row) → AreLeft asked all → HasRowsFor name kept window all → IsReportText name kept window text) where
    pub writes_report : Appends old new text → WritesKept (λ heard. IsReported name heard window) kept old new false
    writes_report appended = record { text = text; is_text = few_reported number few text is; appended = appended }

    pub report_front : AppendsFront old new text → WritesKeptFront (λ heard. IsReported name heard window) kept old new
    report_front front = inr (record { text = text; refusal = false; is_text = few_reported number few text is; appended = front })

  pub refuses_report : AreTooManyLeft asked → Appends old new (refused_text 31) →
      WritesKept (λ heard. IsReported name heard window) kept old new true
  refuses_report many appended = record { text = refused_text 31; is_text = many_reported many; appended = appended }

  pub report_refusal_front : AreTooManyLeft asked → AppendsFront old new (refused_text 31) →
      WritesKeptFront (λ heard. IsReported name heard window) kept old new
  report_refusal_front many front =
      inr (record { text = refused_text 31; refusal = true; is_text = many_reported many; appended = front })
