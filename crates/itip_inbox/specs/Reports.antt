-- A report over some inputs (our own format).
use Rattle.std.specs.Prelude.{◌≡◌, ◌⊎◌, ℕ, Bool, true, false, List, [], ◌∷◌, ◌++◌}
use Rattle.std.specs.List.{flat_map}
use Rattle.itip_items.specs.declared.item.Item.{Item}
use Rattle.itip_view.specs.Rows.{AreTooMany}
use Rattle.itip_view.specs.declared.window.Window.{Window}
use Rattle.itip_report.specs.Named.{IsReportOf, IsOfRows}
use Rattle.itip_report.specs.declared.report_name.ReportName.{ReportName}
use Rattle.itip_desk.specs.Refusals.{refused_text}
use Rattle.itip_inbox.specs.OfInbox.{IsOfInbox}

-- a line with LF after it
abbrev pub ended : List ℕ → List ℕ
ended line = line ++ 10 ∷ []

-- the lines of a report over what was heard, each with LF after it
pub record IsReportText (name : ReportName) (heard : List Item) (window : Window) (text : List ℕ) : Type 0 where
  pub lines : List (List ℕ)
  pub are_lines : IsReportOf name heard window lines
  pub text_is : text ≡ flat_map ended lines

-- The text of the report; or `refused 31`, which is a refusal, if it tells of the rows of the window and these are too many.
abbrev pub IsReported : ReportName → List Item → Window → List ℕ → Bool → Type 0
IsReported name heard window text refusal =
    (IsReportText name heard window text × (refusal ≡ false))
    ⊎ (IsOfRows name × AreTooMany heard window × (text ≡ refused_text 31) × (refusal ≡ true))

-- The report over all messages of some inputs that are not refused, and whether a message or the report is.
abbrev pub IsReport : ReportName → List (List ℕ) → Window → List ℕ → Bool → Type 0
IsReport name inputs window = IsOfInbox (λ heard. IsReported name heard window) inputs
