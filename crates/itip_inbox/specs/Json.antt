-- Rows as JSON objects (RFC 8259; which members there are is our own format).
use Rattle.std.specs.Prelude.{ℕ, zero, suc, ◌+◌, List, [], ◌∷◌, ◌++◌, map, Option, Some, None, codes, option_map}
use Rattle.std.specs.Int.Digits.{digits_of}
use Rattle.std.specs.List.{flat_map}
use Rattle.json.specs.Json.{Json, null, number, string, array, object, Items, no_items, item, Members, no_members, member}
use Rattle.json.specs.Print.{print}
use Rattle.json.specs.Tree.{json_tokens}
use Rattle.itip_moment.specs.Shown.{shown_moment}
use Rattle.itip_todo.specs.Participation.{partstat_text}
use Rattle.itip_todo.specs.StatusText.{status_text}
use Rattle.itip_view.specs.declared.row.Row.{Row}
use Rattle.itip_view.specs.declared.row.ShownAttendee.{ShownAttendee}
use Rattle.itip_inbox.specs.Csv.{row_name}

-- ---- values

-- an absent value is null
abbrev pub or_null : {A : Type 0} → (A → Json) → Option A → Json
or_null json None = null
or_null json (Some x) = json x

abbrev pub text_json : Option (List ℕ) → Json
text_json text = or_null string text

-- The decimal digits of a number, however large it is. Of one below 2^64 this is what `{}` writes.
unfoldable pub numeral : ℕ → List ℕ
numeral zero = 48 ∷ []
numeral (suc n) = map (λ d. 48 + d) (digits_of 10 (suc n))

abbrev pub number_json : Option ℕ → Json
number_json n = or_null (λ (x : ℕ). number (numeral x)) n

-- a name with its value
abbrev pub Member : Type 0
Member = List ℕ × Json

abbrev pub members_of : List Member → Members
members_of [] = no_members
members_of (m ∷ ms) = member m.0 m.1 (members_of ms)

abbrev pub items_of : List Json → Items
items_of [] = no_items
items_of (value ∷ values) = item value (items_of values)

-- ---- objects

abbrev pub attendee_members : ShownAttendee → List Member
attendee_members attendee =
    (codes "address", string attendee.address) ∷ (codes "partstat", string (partstat_text attendee.partstat))
    ∷ (codes "percent", number_json attendee.percent) ∷ []

abbrev pub attendee_object : ShownAttendee → Json
attendee_object attendee = object (members_of (attendee_members attendee))

abbrev pub name_members : Row → List Member
name_members row =
    (codes "uid", string row.uid) ∷ (codes "id", text_json (row_name row.id)) ∷ (codes "sequence", number (numeral row.seq)) ∷ []

abbrev pub number_members : Row → List Member
number_members row =
    (codes "status", text_json (option_map status_text row.status)) ∷ (codes "percent", number_json row.percent)
    ∷ (codes "priority", number_json row.priority) ∷ []

abbrev pub date_members : Row → List Member
date_members row =
    (codes "start", text_json (option_map shown_moment row.start)) ∷ (codes "due", text_json (option_map shown_moment row.due))
    ∷ (codes "summary", text_json row.summary) ∷ []

abbrev pub last_members : Row → List Member
last_members row =
    (codes "attendees", array (items_of (map attendee_object row.attendees))) ∷ (codes "progress", number_json row.progress) ∷ []

abbrev pub row_members : Row → List Member
row_members row = name_members row ++ (number_members row ++ (date_members row ++ last_members row))

abbrev pub row_object : Row → Json
row_object row = object (members_of (row_members row))

abbrev pub rows_array : List Row → Json
rows_array rows = array (items_of (map row_object rows))

-- ---- texts

-- The object of a row, with no space.
abbrev pub object_text : Row → List ℕ
object_text row = print (json_tokens (row_object row))

-- the object of a row after another
abbrev pub object_behind : Row → List ℕ
object_behind row = codes ",\n" ++ object_text row

-- The text of a list: one array, with the object of each row on a line of its own.
abbrev pub json_text : List Row → List ℕ
json_text [] = codes "[]\n"
json_text (row ∷ rows) = codes "[\n" ++ (object_text row ++ (flat_map object_behind rows ++ codes "\n]\n"))

-- the same without the last line break
abbrev pub array_text : List Row → List ℕ
array_text [] = codes "[]"
array_text (row ∷ rows) = codes "[\n" ++ (object_text row ++ (flat_map object_behind rows ++ codes "\n]"))
