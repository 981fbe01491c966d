-- The canonical lines of a to-do, and their octets (RFC 5545 3.6.2; the order of properties and the forms of values are our own).
use Rattle.std.specs.Prelude.{ℕ, Bool, true, false, List, [], ◌∷◌, ◌++◌, codes, Option, Some, None, map}
use Rattle.std.specs.Fmt.{decimal}
use Rattle.itip_lines.specs.Lawful.{line_text}
use Rattle.itip_lines.specs.Writing.{folded}
use Rattle.itip_lines.specs.declared.line.Line.{Line}
use Rattle.itip_lines.specs.declared.line.Param.{Param}
use Rattle.itip_moment.specs.Written.{stamp_text, moment_text}
use Rattle.itip_moment.specs.declared.moment.Moment.{Moment}
use Rattle.itip_moment.specs.declared.moment.Moment.TheVariants.{Date, Floating, Utc, Zoned}
use Rattle.itip_todo.specs.Properties.{Property}
use Rattle.itip_todo.specs.declared.property_name.PropertyName.{PropertyName}
use Rattle.itip_todo.specs.declared.property_name.PropertyName.TheVariants as name
use Rattle.itip_todo.specs.StatusText.{status_text}
use Rattle.itip_todo.specs.Parts.{Parts}
use Rattle.itip_todo.specs.Table.{name_text}

-- a line as data: a name, parameters and a value
pub record Content : Type 0 where
  pub name : List ℕ
  pub params : List Param
  pub value : List ℕ

-- the octets of a line, with folds and its last break
abbrev pub content_octets : Content → List ℕ
content_octets content = folded 0 (line_text content.name content.params content.value)

abbrev pub contents_octets : List Content → List ℕ
contents_octets [] = []
contents_octets (content ∷ contents) = content_octets content ++ contents_octets contents

abbrev pub content_of : Line → Content
content_of line = record { name = line.name; params = line.params; value = line.value }

abbrev pub plain : PropertyName → List ℕ → Content
plain p value = record { name = name_text p; params = []; value = value }

-- a date is marked by VALUE=DATE, a zoned moment by TZID; a floating one and one in UTC have no parameter
abbrev pub moment_params : Moment → List Param
moment_params (Date day) = (record { name = codes "VALUE"; values = codes "DATE" ∷ [] }) ∷ []
moment_params (Floating at) = []
moment_params (Utc at) = []
moment_params (Zoned zone at) = (record { name = codes "TZID"; values = zone.bytes ∷ [] }) ∷ []

abbrev pub moment_line : PropertyName → Moment → Content
moment_line p m = record { name = name_text p; params = moment_params m; value = moment_text m }

-- RANGE of an instance and all after it (RFC 5545 3.2.13)
abbrev pub range_params : Bool → List Param
range_params true = (record { name = codes "RANGE"; values = codes "THISANDFUTURE" ∷ [] }) ∷ []
range_params false = []

-- RECURRENCE-ID, of one instance or of it and all after it
abbrev pub rid_line : Bool → Moment → Content
rid_line range m = record { name = name_text name.RecurrenceId; params = moment_params m ++ range_params range; value = moment_text m }

abbrev pub property_line : PropertyName → Property → Content
property_line p property = record { name = name_text p; params = property.params; value = property.value }

-- the line of a value that may be absent
abbrev pub optional : {A : Type 0} → (A → Content) → Option A → List Content
optional line None = []
optional line (Some value) = line value ∷ []

-- the lines that each to-do has
abbrev pub head_contents : Parts → List Content
head_contents parts = plain name.Uid parts.uid ∷ plain name.DtStamp (stamp_text parts.stamp) ∷ plain name.Sequence (decimal parts.seq) ∷ []

-- the lines that a to-do may have many of, which follow the others
abbrev pub list_contents : Parts → List Content
list_contents parts =
    map (property_line name.Attendee) parts.attendees
    ++ (map (plain name.RRule) parts.rule
    ++ (map (moment_line name.RDate) parts.rdates
    ++ (map (moment_line name.ExDate) parts.exdates
    ++ map content_of parts.others)))

-- the lines between BEGIN:VTODO and END:VTODO
abbrev pub parts_contents : Parts → List Content
parts_contents parts =
    head_contents parts
    ++ (optional (λ n. plain name.DeskBase (decimal n)) parts.base
    ++ (optional (rid_line parts.range) parts.rid
    ++ (optional (moment_line name.DtStart) parts.start
    ++ (optional (moment_line name.Due) parts.due
    ++ (optional (λ s. plain name.Status (status_text s)) parts.status
    ++ (optional (λ n. plain name.PercentComplete (decimal n)) parts.percent
    ++ (optional (λ n. plain name.Priority (decimal n)) parts.priority
    ++ (optional (property_line name.Summary) parts.summary
    ++ (optional (property_line name.Organizer) parts.organizer
    ++ list_contents parts)))))))))

abbrev pub bare : List ℕ → List ℕ → Content
bare name value = record { name = name; params = []; value = value }

-- the lines from BEGIN:VTODO to END:VTODO
abbrev pub todo_contents : Parts → List Content
todo_contents parts = bare (codes "BEGIN") (codes "VTODO") ∷ (parts_contents parts ++ bare (codes "END") (codes "VTODO") ∷ [])

abbrev pub without_lists : Parts → Parts
without_lists parts = record parts { attendees = []; rule = []; rdates = []; exdates = []; others = [] }

-- the lines from BEGIN:VTODO to ORGANIZER, and those from ATTENDEE to END:VTODO: together the lines of a to-do
abbrev pub front_contents : Parts → List Content
front_contents parts = bare (codes "BEGIN") (codes "VTODO") ∷ parts_contents (without_lists parts)

abbrev pub rest_contents : Parts → List Content
rest_contents parts = list_contents parts ++ bare (codes "END") (codes "VTODO") ∷ []
