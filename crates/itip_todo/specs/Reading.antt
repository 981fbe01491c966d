-- What the lines between BEGIN:VTODO and END:VTODO read as: a to-do, or why and where they are refused (RFC 5545 3.6.2;
-- the order of causes is our own).
use Rattle.std.specs.Prelude.{◌≡◌, ◌≢◌, ◌<◌, ◌↔◌, ℕ, ◌⊎◌, Bool, false, not, ◌&&◌, nat_le, IsTrue, List, [], ◌∷◌, ◌++◌, length, map, codes}
use Rattle.std.specs.Prelude.{Option, Some, None}
use Rattle.std.specs.Option.{is_some}
use Rattle.std.specs.List.{list_any, filter, Contains}
use Rattle.std.specs.List.Sorted.{IsStrictlySortedBy}
use Rattle.std.specs.Str.{str_eq_ignore_ascii_case}
use Rattle.itip_lines.specs.Reading.{plain_lines}
use Rattle.itip_lines.specs.declared.line.Line.{Line}
use Rattle.itip_lines.specs.declared.line.NumberedLine.{NumberedLine}
use Rattle.itip_lines.specs.declared.line.Param.{Param}
use Rattle.itip_moment.specs.Order.{moment_cmp}
use Rattle.itip_moment.specs.Spelling.{IsStampText}
use Rattle.itip_moment.specs.declared.moment.Moment.{Moment}
use Rattle.itip_moment.specs.declared.stamp.Stamp.{Stamp}
use Rattle.itip_todo.specs.Participation.{same_text, param_value}
use Rattle.itip_todo.specs.StatusText.{status_of}
use Rattle.itip_todo.specs.Limits.{Limits, present}
use Rattle.itip_todo.specs.Table.{property_of, is_same, stands_once, attendee_key, sequence_limit, percent_limit, priority_limit}
use Rattle.itip_todo.specs.Values.{IsNumberUpTo, IsMomentText, AreMoments, IsGoodValue}
use Rattle.itip_todo.specs.Properties.{Property}
use Rattle.itip_todo.specs.declared.property_name.PropertyName.{PropertyName}
use Rattle.itip_todo.specs.declared.property_name.PropertyName.TheVariants as name
use Rattle.itip_todo.specs.declared.status.Status.{Status}
use Rattle.itip_todo.specs.declared.todo.Todo.{Todo}
use Rattle.itip_todo.specs.declared.error.TodoCause.{TodoCause}
use Rattle.itip_todo.specs.declared.error.TodoCause.TheVariants as cause
use Rattle.itip_todo.specs.declared.error.TodoRefusal.{TodoRefusal}
use Rattle.itip_todo.specs.declared.error.TodoError.{TodoError}
use Rattle.itip_todo.specs.declared.error.TodoError.TheVariants as error

-- the lines of a property, in order
abbrev pub lines_of : List Line → PropertyName → List Line
lines_of lines p = filter (λ line. is_same (property_of line) p) lines

abbrev pub first_of : List Line → Option Line
first_of [] = None
first_of (line ∷ lines) = Some line

-- the first line of a property
abbrev pub first_named : PropertyName → List Line → Option Line
first_named p lines = first_of (lines_of lines p)

-- the property may appear once, and appears above already
abbrev pub is_twice : (PropertyName → List Line) → PropertyName → Bool
is_twice above p = stands_once p && is_some (first_of (above p))

-- A line with RANGE=THISANDFUTURE: the first value of the first RANGE, without regard to case.
abbrev pub has_range : Line → Bool
has_range line = str_eq_ignore_ascii_case (param_value (codes "RANGE") line.params) (codes "THISANDFUTURE")

-- whether RECURRENCE-ID, if there is one, has RANGE=THISANDFUTURE
abbrev pub range_of : Option Line → Bool
range_of None = false
range_of (Some line) = has_range line

-- RECURRENCE-ID with a RANGE of another value, or of any value if ranges are not allowed
abbrev pub has_bad_range_within : Limits → PropertyName → Line → Bool
has_bad_range_within limits p line = is_same p name.RecurrenceId &&
    (list_any (λ (param : Param). same_text param.name (codes "RANGE")) line.params && not (limits.ranges && has_range line))

abbrev pub has_bad_range : PropertyName → Line → Bool
has_bad_range = has_bad_range_within present

-- one ATTENDEE too many
abbrev pub is_too_many_within : Limits → (PropertyName → List Line) → PropertyName → Bool
is_too_many_within limits above p = is_same p name.Attendee && nat_le limits.attendees (length (above name.Attendee))

abbrev pub is_too_many : (PropertyName → List Line) → PropertyName → Bool
is_too_many = is_too_many_within present

abbrev pub key_of : Line → List ℕ
key_of line = attendee_key line.value

-- an ATTENDEE with the key of one above
abbrev pub is_same_attendee : (PropertyName → List Line) → PropertyName → Line → Bool
is_same_attendee above p line = is_same p name.Attendee && list_any (same_text (key_of line)) (map key_of (above name.Attendee))

-- nothing is wrong with a line that is read as p within these limits, if these are the lines of each property above it
pub record IsGoodWithin (limits : Limits) (above : PropertyName → List Line) (p : PropertyName) (line : Line) : Type 0 where
  pub once : is_twice above p ≡ false
  pub range : has_bad_range_within limits p line ≡ false
  pub value : IsGoodValue p line
  pub few : is_too_many_within limits above p ≡ false
  pub new : is_same_attendee above p line ≡ false

abbrev pub IsGoodAs : (PropertyName → List Line) → PropertyName → Line → Type 0
IsGoodAs = IsGoodWithin present

-- what is wrong with a line that is read as p, the first of: twice, another RANGE, a bad value, too many, the same attendee
abbrev pub HasCauseAs : (PropertyName → List Line) → PropertyName → Line → TodoCause → Type 0
HasCauseAs above p line (cause.Missing q) = ⊥
HasCauseAs above p line (cause.Twice q) = (q ≡ p) × IsTrue (is_twice above p)
HasCauseAs above p line cause.Range = (is_twice above p ≡ false) × IsTrue (has_bad_range p line)
HasCauseAs above p line (cause.BadValue q) = (q ≡ p) × (is_twice above p ≡ false) × (has_bad_range p line ≡ false) × (¬ IsGoodValue p line)
HasCauseAs above p line cause.TooMany = (is_twice above p ≡ false) × (has_bad_range p line ≡ false) × IsGoodValue p line ×
    IsTrue (is_too_many above p)
HasCauseAs above p line cause.SameAttendee =
    (is_twice above p ≡ false) × (has_bad_range p line ≡ false) × IsGoodValue p line × (is_too_many above p ≡ false) ×
    IsTrue (is_same_attendee above p line)

-- nothing is wrong with a line, if these are above it
abbrev pub IsGood : List Line → Line → Type 0
IsGood above line = IsGoodAs (lines_of above) (property_of line) line

-- this is wrong with a line, if these are above it
abbrev pub HasCause : List Line → Line → TodoCause → Type 0
HasCause above line c = HasCauseAs (lines_of above) (property_of line) line c

-- nothing is wrong with any line, within these limits
abbrev pub AreGoodWithin : Limits → List Line → List Line → Type 0
AreGoodWithin limits above [] = Unit {0}
AreGoodWithin limits above (line ∷ lines) =
    IsGoodWithin limits (lines_of above) (property_of line) line × AreGoodWithin limits (above ++ line ∷ []) lines

abbrev pub AreGood : List Line → List Line → Type 0
AreGood = AreGoodWithin present

-- the refusal names this line as the place, and what is wrong with it
abbrev pub HasRefusal : List Line → NumberedLine → TodoRefusal → Type 0
HasRefusal above l refusal = (refusal.line ≡ Some l.number) × HasCause above l.line refusal.cause

-- the refusal is that of the first faulty line
abbrev pub FirstRefusal : List Line → List NumberedLine → TodoRefusal → Type 0
FirstRefusal above [] refusal = ⊥
FirstRefusal above (l ∷ ls) refusal = HasRefusal above l refusal ⊎ (IsGood above l.line × FirstRefusal (above ++ l.line ∷ []) ls refusal)

-- a value that may be absent: absent if the property has no line, and else in this relation to its first line
abbrev pub IsOptional : {A : Type 0} → (Line → A → Type 0) → Option Line → Option A → Type 0
IsOptional P None None = Unit {0}
IsOptional P None (Some value) = ⊥
IsOptional P (Some line) None = ⊥
IsOptional P (Some line) (Some value) = P line value

-- a number that counts as 0 if it is absent
abbrev pub IsOrNought : (Line → ℕ → Type 0) → Option Line → ℕ → Type 0
IsOrNought P None n = n ≡ 0
IsOrNought P (Some line) n = P line n

abbrev pub IsUidOf : Line → List ℕ → Type 0
IsUidOf line uid = (uid ≡ line.value) × (0 < length line.value)

abbrev pub IsStampOf : Line → Stamp → Type 0
IsStampOf line stamp = IsStampText line.value stamp

abbrev pub IsSequenceOf : Line → ℕ → Type 0
IsSequenceOf line n = IsNumberUpTo sequence_limit line.value n

abbrev pub IsPercentOf : Line → ℕ → Type 0
IsPercentOf line n = IsNumberUpTo percent_limit line.value n

abbrev pub IsPriorityOf : Line → ℕ → Type 0
IsPriorityOf line n = IsNumberUpTo priority_limit line.value n

abbrev pub IsMomentOf : Line → Moment → Type 0
IsMomentOf line m = IsMomentText line.params line.value m

abbrev pub IsStatusOf : Line → Status → Type 0
IsStatusOf line s = status_of line.value ≡ Some s

abbrev pub whole_property : Line → Property
whole_property line = record { params = line.params; value = line.value }

abbrev pub IsPropertyOf : Line → Property → Type 0
IsPropertyOf line p = p ≡ whole_property line

abbrev pub IsOrganizerOf : Line → Property → Type 0
IsOrganizerOf line p = (p ≡ whole_property line) × (0 < length line.value)

abbrev pub value_of : Line → List ℕ
value_of line = line.value

-- the moments that these lines list, in order of appearance
abbrev pub ListMoments : List Line → List Moment → Type 0
ListMoments [] moments = moments ≡ []
ListMoments (line ∷ lines) moments =
    (here : List Moment) × (later : List Moment) × (moments ≡ here ++ later) × AreMoments line.params line.value here ×
    ListMoments lines later

-- these moments, each once and in ascending order, are those that the lines list
pub record AreMomentsOf (lines : List Line) (moments : List Moment) : Type 0 where
  pub listed : List Moment
  pub list : ListMoments lines listed
  pub ascending : IsStrictlySortedBy moment_cmp moments
  pub each : (m : Moment) → Contains moments m ↔ Contains listed m

-- the lines are this to-do, within these limits
pub record ReadsTodoWithin (limits : Limits) (lines : List Line) (todo : Todo) : Type 0 where
  pub good : AreGoodWithin limits [] lines
  pub uid : IsOptional IsUidOf (first_named name.Uid lines) (Some todo.uid)
  pub stamp : IsOptional IsStampOf (first_named name.DtStamp lines) (Some todo.stamp)
  pub seq : IsOrNought IsSequenceOf (first_named name.Sequence lines) todo.seq
  pub base : IsOptional IsSequenceOf (first_named name.DeskBase lines) todo.base
  pub rid : IsOptional IsMomentOf (first_named name.RecurrenceId lines) todo.rid
  pub range : todo.range ≡ range_of (first_named name.RecurrenceId lines)
  pub start : IsOptional IsMomentOf (first_named name.DtStart lines) todo.start
  pub due : IsOptional IsMomentOf (first_named name.Due lines) todo.due
  pub status : IsOptional IsStatusOf (first_named name.Status lines) todo.status
  pub percent : IsOptional IsPercentOf (first_named name.PercentComplete lines) todo.percent
  pub priority : IsOptional IsPriorityOf (first_named name.Priority lines) todo.priority
  pub summary : IsOptional IsPropertyOf (first_named name.Summary lines) todo.summary
  pub organizer : IsOptional IsOrganizerOf (first_named name.Organizer lines) todo.organizer
  pub attendees : todo.attendees ≡ map whole_property (lines_of lines name.Attendee)
  pub rule : todo.rule ≡ map value_of (lines_of lines name.RRule)
  pub rdates : AreMomentsOf (lines_of lines name.RDate) todo.rdates
  pub exdates : AreMomentsOf (lines_of lines name.ExDate) todo.exdates
  pub others : todo.others ≡ lines_of lines name.Others

-- the lines are this to-do
abbrev pub ReadsTodo : List Line → Todo → Type 0
ReadsTodo = ReadsTodoWithin present

-- a property is missing, which is not the fault of any line
abbrev pub missing : PropertyName → TodoRefusal
missing p = record { cause = cause.Missing p; line = None }

-- nothing is wrong with the lines, but there is no UID, or else no DTSTAMP
abbrev pub LacksProperty : List Line → TodoRefusal → Type 0
LacksProperty lines refusal =
    (AreGood [] lines × (first_named name.Uid lines ≡ None) × (refusal ≡ missing name.Uid))
    ⊎ (AreGood [] lines × (first_named name.Uid lines ≢ None) × (first_named name.DtStamp lines ≡ None) × (refusal ≡ missing name.DtStamp))

-- the lines are refused, for this cause and in this place: those of the first faulty line, or else what is missing
abbrev pub RefusesTodo : List NumberedLine → TodoRefusal → Type 0
RefusesTodo lines refusal = FirstRefusal [] lines refusal ⊎ LacksProperty (plain_lines lines) refusal

-- if the error is a refusal, P holds of it; of a failed allocation nothing is said
abbrev pub IfRefused : TodoError → (TodoRefusal → Type 0) → Type 0
IfRefused error.NoMemory P = Unit {0}
IfRefused (error.Refused refusal) P = P refusal
