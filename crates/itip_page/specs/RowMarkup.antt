-- A row of the list as a row of a table (our own form): constants, numbers, and between them escaped texts.
use Rattle.std.specs.Prelude.{ℕ, ℤ, Bool, true, false, nat_eq, List, [], ◌∷◌, ◌++◌, codes, map, take, drop, Option, Some, None}
use Rattle.std.specs.Prelude.{if◌then◌else◌}
use Rattle.std.specs.Char.{to_ascii_lowercase}
use Rattle.std.specs.Cmp.Lexicographic.{pointwise}
use Rattle.std.specs.Fmt.{decimal}
use Rattle.std.specs.List.{flat_map}
use Rattle.itip_moment.specs.declared.moment.Moment.{Moment}
use Rattle.itip_todo.specs.declared.attendee.PartStat.{PartStat}
use Rattle.itip_todo.specs.declared.attendee.PartStat.TheVariants as part
use Rattle.itip_todo.specs.declared.status.Status.{Status}
use Rattle.itip_todo.specs.declared.status.Status.TheVariants as status
use Rattle.itip_view.specs.Wanted.{is_overdue}
use Rattle.itip_view.specs.declared.row.Row.{Row}
use Rattle.itip_view.specs.declared.row.RowId.{RowId}
use Rattle.itip_view.specs.declared.row.RowId.TheVariants.{Single, At, Opaque}
use Rattle.itip_view.specs.declared.row.ShownAttendee.{ShownAttendee}
use Rattle.itip_page.specs.Dates.{moment_markup}
use Rattle.itip_page.specs.Escaped.{escaped}
use Rattle.itip_page.specs.Value.{value_markup}

-- ---- the to-do

-- the SUMMARY, or the UID in place of an empty one
abbrev pub named : List ℕ → List ℕ → List ℕ
named [] uid = uid
named (octet ∷ octets) uid = octet ∷ octets

-- or in place of an absent one
abbrev pub name_of : Option (List ℕ) → List ℕ → List ℕ
name_of None uid = uid
name_of (Some summary) uid = named summary uid

-- either is a value of type TEXT
abbrev pub name_markup : Row → List ℕ
name_markup row = value_markup (name_of row.summary row.uid)

-- in the attribute the UID is not read as a value
abbrev pub name_cell : Row → List ℕ
name_cell row =
    codes "<th scope=\"row\" title=\"" ++ (escaped row.uid ++ (codes "\"><bdi>" ++ (name_markup row ++ codes "</bdi></th>")))

-- ---- when

-- START, or the moment of an instance or occurrence that has none
abbrev pub start_markup : Option Moment → RowId → List ℕ
start_markup (Some start) id = moment_markup start
start_markup None Single = []
start_markup None (At moment) = moment_markup moment
start_markup None Opaque = []

abbrev pub repeats_markup : RowId → List ℕ
repeats_markup Single = []
repeats_markup (At moment) = []
repeats_markup Opaque = codes " <small>repeats, shown once</small>"

abbrev pub when_cell : Row → List ℕ
when_cell row = codes "<td>" ++ (start_markup row.start row.id ++ (repeats_markup row.id ++ codes "</td>"))

-- ---- due

abbrev pub due_markup : Option Moment → List ℕ
due_markup None = []
due_markup (Some due) = moment_markup due

abbrev pub late_markup : Bool → List ℕ
late_markup false = []
late_markup true = codes " <strong>overdue</strong>"

abbrev pub due_cell : Bool → Option Moment → List ℕ
due_cell is_late due = codes "<td>" ++ (due_markup due ++ (late_markup is_late ++ codes "</td>"))

-- ---- status

abbrev pub status_words : Option Status → List ℕ
status_words None = []
status_words (Some status.NeedsAction) = codes "needs action"
status_words (Some status.Completed) = codes "completed"
status_words (Some status.InProcess) = codes "in process"
status_words (Some status.Cancelled) = codes "cancelled"

abbrev pub status_cell : Option Status → List ℕ
status_cell said = codes "<td>" ++ (status_words said ++ codes "</td>")

-- ---- how far

-- PROGRESS, as a bar and a number
abbrev pub bar_markup : Option ℕ → List ℕ
bar_markup None = []
bar_markup (Some progress) =
    codes "<span class=\"bar\"><i style=\"width:" ++ (decimal progress ++ (codes "%\"></i></span> " ++ (decimal progress ++ codes "%")))

-- PERCENT-COMPLETE of the to-do
abbrev pub own_markup : Option ℕ → List ℕ
own_markup None = []
own_markup (Some percent) = codes " <small>organizer: " ++ (decimal percent ++ codes "%</small>")

abbrev pub progress_cell : Row → List ℕ
progress_cell row = codes "<td>" ++ (bar_markup row.progress ++ (own_markup row.percent ++ codes "</td>"))

-- ---- who

-- an address without its `mailto:`, which may be in any case; any other address as it is
abbrev pub bare_address : List ℕ → List ℕ
bare_address address =
    if pointwise nat_eq (map to_ascii_lowercase (take 7 address)) (codes "mailto:") then drop 7 address else address

abbrev pub partstat_words : PartStat → List ℕ
partstat_words part.NeedsAction = codes "no answer yet"
partstat_words part.Accepted = codes "accepted"
partstat_words part.Declined = codes "declined"
partstat_words part.Tentative = codes "tentative"
partstat_words part.Delegated = codes "delegated"
partstat_words part.Completed = codes "completed"
partstat_words part.InProcess = codes "in process"

abbrev pub told_markup : Option ℕ → List ℕ
told_markup None = []
told_markup (Some percent) = codes ", " ++ (decimal percent ++ codes "%")

abbrev pub answer_markup : ShownAttendee → List ℕ
answer_markup attendee = partstat_words attendee.partstat ++ told_markup attendee.percent

abbrev pub attendee_markup : ShownAttendee → List ℕ
attendee_markup attendee =
    codes "<li><bdi>" ++ (escaped (bare_address attendee.address)
    ++ (codes "</bdi> <span>" ++ (answer_markup attendee ++ codes "</span></li>")))

abbrev pub who_cell : List ShownAttendee → List ℕ
who_cell [] = codes "<td></td>"
who_cell (attendee ∷ attendees) = codes "<td><ul>" ++ (flat_map attendee_markup (attendee ∷ attendees) ++ codes "</ul></td>")

-- ---- the row

abbrev pub opening_markup : Bool → List ℕ
opening_markup false = codes "<tr>"
opening_markup true = codes "<tr class=\"late\">"

abbrev pub dated_markup : Bool → Row → List ℕ
dated_markup is_late row = name_cell row ++ (when_cell row ++ due_cell is_late row.due)

abbrev pub done_markup : Row → List ℕ
done_markup row = status_cell row.status ++ (progress_cell row ++ who_cell row.attendees)

-- a row, on the day of this number
abbrev pub row_markup : ℤ → Row → List ℕ
row_markup today row =
    opening_markup (is_overdue today row) ++ (dated_markup (is_overdue today row) row ++ (done_markup row ++ codes "</tr>\n"))
