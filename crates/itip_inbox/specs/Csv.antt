-- Rows as records of comma-separated fields (RFC 4180 2, with LF as the line break; which fields there are is our own format).
use Rattle.std.specs.Prelude.{ℕ, ◌==◌, ◌||◌, Bool, if◌then◌else◌, List, [], ◌∷◌, ◌++◌, map, Option, Some, None, codes}
use Rattle.std.specs.Fmt.{decimal}
use Rattle.std.specs.List.{flat_map, list_any}
use Rattle.itip_moment.specs.Shown.{shown_moment}
use Rattle.itip_todo.specs.Participation.{partstat_text}
use Rattle.itip_todo.specs.StatusText.{status_text}
use Rattle.itip_view.specs.declared.row.Row.{Row}
use Rattle.itip_view.specs.declared.row.RowId.{RowId}
use Rattle.itip_view.specs.declared.row.RowId.TheVariants.{Single, At, Opaque}
use Rattle.itip_view.specs.declared.row.ShownAttendee.{ShownAttendee}

-- ---- texts

-- the octet means something in a record: a comma, a quote, CR or LF
abbrev pub is_special : ℕ → Bool
is_special octet = (octet == 44) || ((octet == 34) || ((octet == 13) || (octet == 10)))

-- in quotes a quote is doubled
abbrev pub doubled : ℕ → List ℕ
doubled octet = if octet == 34 then 34 ∷ 34 ∷ [] else octet ∷ []

-- A field is in quotes if it has an octet that means something.
abbrev pub field_text : List ℕ → List ℕ
field_text field = if list_any is_special field then 34 ∷ (flat_map doubled field ++ 34 ∷ []) else field

abbrev pub field_behind : List ℕ → List ℕ
field_behind field = 44 ∷ field_text field

-- fields after another
abbrev pub fields_behind : List (List ℕ) → List ℕ
fields_behind fields = flat_map field_behind fields

-- A record: its fields with commas between them, and LF.
abbrev pub record_text : List (List ℕ) → List ℕ
record_text [] = 10 ∷ []
record_text (field ∷ fields) = field_text field ++ (fields_behind fields ++ 10 ∷ [])

abbrev pub records_text : List (List (List ℕ)) → List ℕ
records_text records = flat_map record_text records

-- ---- fields

-- what names a row besides its UID
abbrev pub row_name : RowId → Option (List ℕ)
row_name Single = None
row_name (At moment) = Some (shown_moment moment)
row_name Opaque = Some (codes "opaque")

-- an absent value is an empty field
abbrev pub field_of : {A : Type 0} → (A → List ℕ) → Option A → List ℕ
field_of text None = []
field_of text (Some x) = text x

-- the names of the fields, which are the first record
abbrev pub field_names : List (List ℕ)
field_names =
    codes "uid" ∷ codes "id" ∷ codes "sequence" ∷ codes "status" ∷ codes "percent" ∷ codes "priority" ∷ codes "start" ∷ codes "due"
    ∷ codes "summary" ∷ codes "progress" ∷ codes "attendee" ∷ codes "partstat" ∷ codes "attendee_percent" ∷ []

abbrev pub name_fields : Row → List (List ℕ)
name_fields row = field_of (λ text. text) (row_name row.id) ∷ decimal row.seq ∷ field_of status_text row.status ∷ []

abbrev pub number_fields : Row → List (List ℕ)
number_fields row = field_of decimal row.percent ∷ field_of decimal row.priority ∷ []

abbrev pub date_fields : Row → List (List ℕ)
date_fields row = field_of shown_moment row.start ∷ field_of shown_moment row.due ∷ []

abbrev pub last_fields : Row → List (List ℕ)
last_fields row = field_of (λ text. text) row.summary ∷ field_of decimal row.progress ∷ []

-- the fields of an attendee, or three empty ones if there is none
abbrev pub attendee_fields : Option ShownAttendee → List (List ℕ)
attendee_fields None = [] ∷ [] ∷ [] ∷ []
attendee_fields (Some attendee) =
    attendee.address ∷ partstat_text attendee.partstat ∷ field_of decimal attendee.percent ∷ []

-- the record of a row for one of its attendees, or for none
abbrev pub record_of : Row → Option ShownAttendee → List (List ℕ)
record_of row attendee =
    row.uid ∷ (name_fields row ++ (number_fields row ++ (date_fields row ++ (last_fields row ++ attendee_fields attendee))))

-- One record for each attendee of a row, or one if it shows none.
abbrev pub records_for : Row → List ShownAttendee → List (List (List ℕ))
records_for row [] = record_of row None ∷ []
records_for row (attendee ∷ attendees) = map (λ who. record_of row (Some who)) (attendee ∷ attendees)

abbrev pub attendee_record_text : Row → ShownAttendee → List ℕ
attendee_record_text row attendee = record_text (record_of row (Some attendee))

abbrev pub records_of : Row → List (List (List ℕ))
records_of row = records_for row row.attendees

-- the records of rows, after the one that names the fields
abbrev pub records_of_rows : List Row → List (List (List ℕ))
records_of_rows rows = field_names ∷ flat_map records_of rows

abbrev pub row_records_text : Row → List ℕ
row_records_text row = records_text (records_of row)

-- The text of a list.
abbrev pub csv_text : List Row → List ℕ
csv_text rows = record_text field_names ++ flat_map row_records_text rows
