-- The names of the properties of a to-do, and how often each may appear (RFC 5545 3.6.2; X-DESK-BASE is our own).
use Rattle.std.specs.Prelude.{◌≡◌, ◌<◌, ℕ, ◌==◌, Bool, cond, ◌&&◌, nat_lt, List, [], codes, map}
use Rattle.std.specs.Char.{to_ascii_lowercase}
use Rattle.std.specs.List.{list_any}
use Rattle.itip_lines.specs.declared.line.Line.{Line}
use Rattle.itip_todo.specs.Participation.{same_text}
use Rattle.itip_todo.specs.declared.property_name.PropertyName.{PropertyName}
use Rattle.itip_todo.specs.declared.property_name.PropertyName.TheVariants.{Uid, DtStamp, Sequence, DeskBase, RecurrenceId, DtStart, Due}
use Rattle.itip_todo.specs.declared.property_name.PropertyName.TheVariants.{Status, PercentComplete, Priority, Summary, Organizer, Attendee}
use Rattle.itip_todo.specs.declared.property_name.PropertyName.TheVariants.{RRule, RDate, ExDate, Others}

-- the name of a property as it is written; empty for the others, which have no single name
abbrev pub name_text : PropertyName → List ℕ
name_text Uid = codes "UID"
name_text DtStamp = codes "DTSTAMP"
name_text Sequence = codes "SEQUENCE"
name_text DeskBase = codes "X-DESK-BASE"
name_text RecurrenceId = codes "RECURRENCE-ID"
name_text DtStart = codes "DTSTART"
name_text Due = codes "DUE"
name_text Status = codes "STATUS"
name_text PercentComplete = codes "PERCENT-COMPLETE"
name_text Priority = codes "PRIORITY"
name_text Summary = codes "SUMMARY"
name_text Organizer = codes "ORGANIZER"
name_text Attendee = codes "ATTENDEE"
name_text RRule = codes "RRULE"
name_text RDate = codes "RDATE"
name_text ExDate = codes "EXDATE"
name_text Others = []

-- the property with this name, in upper case
abbrev pub property_named : List ℕ → PropertyName
property_named name =
    cond (same_text name (codes "UID")) Uid
    (cond (same_text name (codes "DTSTAMP")) DtStamp
    (cond (same_text name (codes "SEQUENCE")) Sequence
    (cond (same_text name (codes "X-DESK-BASE")) DeskBase
    (cond (same_text name (codes "RECURRENCE-ID")) RecurrenceId
    (cond (same_text name (codes "DTSTART")) DtStart
    (cond (same_text name (codes "DUE")) Due
    (cond (same_text name (codes "STATUS")) Status
    (cond (same_text name (codes "PERCENT-COMPLETE")) PercentComplete
    (cond (same_text name (codes "PRIORITY")) Priority
    (cond (same_text name (codes "SUMMARY")) Summary
    (cond (same_text name (codes "ORGANIZER")) Organizer
    (cond (same_text name (codes "ATTENDEE")) Attendee
    (cond (same_text name (codes "RRULE")) RRule
    (cond (same_text name (codes "RDATE")) RDate
    (cond (same_text name (codes "EXDATE")) ExDate Others)))))))))))))))

-- the place of a property in canonical order
abbrev pub place_of : PropertyName → ℕ
place_of Uid = 0
place_of DtStamp = 1
place_of Sequence = 2
place_of DeskBase = 3
place_of RecurrenceId = 4
place_of DtStart = 5
place_of Due = 6
place_of Status = 7
place_of PercentComplete = 8
place_of Priority = 9
place_of Summary = 10
place_of Organizer = 11
place_of Attendee = 12
place_of RRule = 13
place_of RDate = 14
place_of ExDate = 15
place_of Others = 16

abbrev pub is_same : PropertyName → PropertyName → Bool
is_same p q = place_of p == place_of q

-- the property may appear at most once; ATTENDEE, RRULE, RDATE, EXDATE and the others may appear several times
abbrev pub stands_once : PropertyName → Bool
stands_once p = nat_lt (place_of p) 12

-- the property that a line of this name and value is read as: RDATE with `/` (47) in its value is one of the others (our own rule)
abbrev pub read_as : List ℕ → List ℕ → PropertyName
read_as name value = cond (is_same (property_named name) RDate && list_any (λ c. c == 47) value) Others (property_named name)

-- the property of a line; names are in upper case
unfoldable pub property_of : Line → PropertyName
property_of line = read_as line.name line.value

abbrev pub is_other : Line → Bool
is_other line = is_same (property_of line) Others

-- the greatest SEQUENCE and X-DESK-BASE (our own limit)
abbrev pub sequence_limit : ℕ
sequence_limit = 2147483647

-- the greatest PERCENT-COMPLETE (RFC 5545 3.8.1.8)
abbrev pub percent_limit : ℕ
percent_limit = 100

-- the greatest PRIORITY (RFC 5545 3.8.1.9)
abbrev pub priority_limit : ℕ
priority_limit = 9

-- the maximum number of attendees of a to-do (our own limit)
abbrev pub attendee_limit : ℕ
attendee_limit = 2000

-- an attendee is identified by the address with ASCII letters in lower case (our own rule)
abbrev pub attendee_key : List ℕ → List ℕ
attendee_key address = map to_ascii_lowercase address

-- a property that is distinguished by name is spelled by that name
abbrev pub IsSpelled : PropertyName → List ℕ → Type 0
IsSpelled p name = place_of p < 16 → name ≡ name_text p

-- a line of RDATE
abbrev pub is_rdate : Line → Bool
is_rdate line = same_text line.name (codes "RDATE")

-- the lines of other properties have an RDATE: one with `/` in its value, a period
abbrev pub has_period : List Line → Bool
has_period lines = list_any is_rdate lines
