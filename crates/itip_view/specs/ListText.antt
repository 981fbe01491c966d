-- The text of a task list (our own form).
use Rattle.std.specs.Prelude.{◌≡◌, ◌≤◌, length, ℕ, List, ◌++◌, codes, Option, Some, None}
use Rattle.std.specs.Fmt.{decimal}
use Rattle.std.specs.List.{flat_map}
use Rattle.itip_moment.specs.Shown.{shown_moment}
use Rattle.itip_todo.specs.Participation.{partstat_text}
use Rattle.itip_todo.specs.StatusText.{status_text}
use Rattle.itip_items.specs.declared.item.Item.{Item}
use Rattle.itip_view.specs.Rows.{AreRows, row_limit}
use Rattle.itip_view.specs.declared.row.Row.{Row}
use Rattle.itip_view.specs.declared.row.RowId.{RowId}
use Rattle.itip_view.specs.declared.row.RowId.TheVariants.{Single, At, Opaque}
use Rattle.itip_view.specs.declared.row.ShownAttendee.{ShownAttendee}
use Rattle.itip_view.specs.declared.window.Window.{Window}

-- "-" stands for what is absent
abbrev pub shown : {A : Type 0} → (A → List ℕ) → Option A → List ℕ
shown text None = codes "-"
shown text (Some x) = text x

abbrev pub id_text : RowId → List ℕ
id_text Single = codes "-"
id_text (At moment) = shown_moment moment
id_text Opaque = codes "opaque"

abbrev pub attendee_text : ShownAttendee → List ℕ
attendee_text a =
    codes "  ATTENDEE " ++ (a.address
    ++ (codes " " ++ (partstat_text a.partstat ++ (codes " " ++ (shown decimal a.percent ++ codes "\n")))))

-- UID and identifier
abbrev pub names_text : Row → List ℕ
names_text row = codes "TODO " ++ (row.uid ++ (codes "\n  ID " ++ id_text row.id))

-- SEQUENCE, STATUS, PERCENT-COMPLETE and PRIORITY
abbrev pub numbers_text : Row → List ℕ
numbers_text row =
    codes "\n  SEQ " ++ (decimal row.seq
    ++ (codes " STATUS " ++ (shown status_text row.status
    ++ (codes " PERCENT " ++ (shown decimal row.percent
    ++ (codes " PRIORITY " ++ shown decimal row.priority))))))

-- DTSTART and DUE
abbrev pub dates_text : Row → List ℕ
dates_text row = codes "\n  START " ++ (shown shown_moment row.start ++ (codes " DUE " ++ shown shown_moment row.due))

abbrev pub summary_text : Row → List ℕ
summary_text row = codes "\n  SUMMARY " ++ (shown (λ text. text) row.summary ++ codes "\n")

abbrev pub progress_text : Row → List ℕ
progress_text row = codes "  PROGRESS " ++ (shown decimal row.progress ++ codes "\n")

abbrev pub row_text : Row → List ℕ
row_text row =
    names_text row ++ (numbers_text row
    ++ (dates_text row ++ (summary_text row ++ (flat_map attendee_text row.attendees ++ progress_text row))))

abbrev pub list_text : List Row → List ℕ
list_text rows = flat_map row_text rows

-- the text of the view of a set in a window, if it has at most 100,000 rows
pub record IsListText (heard : List Item) (window : Window) (text : List ℕ) : Type 0 where
  pub rows : List Row
  pub are_rows : AreRows heard window rows
  pub few : length rows ≤ row_limit
  pub text_is : text ≡ list_text rows
