-- What the lines so far say of a to-do, as the reader keeps it (our own form).
use Rattle.std.specs.Prelude.{◌≡◌, ◌≢◌, ◌<◌, ◌≤◌, ℕ, ◌||◌, Bool, cond, slice_index, List, [], ◌∷◌, ◌++◌, length, map, unwrap_or, Some}
use Rattle.std.specs.BTreeSet.{BTreeSet, contains, IsOrdered}
use Rattle.std.specs.Cmp.Lexicographic.{slice_cmp}
use Rattle.std.specs.List.{list_any, AllByRecursion, IsDistinct}
use Rattle.std.specs.Ordering.{nat_cmp, eq_by_cmp}
use Rattle.itip_lines.specs.declared.line.Line.{Line}
use Rattle.itip_lines.specs.declared.line.Param.{Param}
use Rattle.itip_moment.specs.Order.{moment_cmp}
use Rattle.itip_moment.specs.Spelling.{MomentText}
use Rattle.itip_moment.specs.declared.moment.Moment.{Moment}
use Rattle.itip_moment.specs.declared.stamp.Stamp.{Stamp}
use Rattle.itip_todo.specs.Lawful.{IsLawful, HasValue}
use Rattle.itip_todo.specs.Participation.{same_text}
use Rattle.itip_todo.specs.Parts.{Parts}
use Rattle.itip_todo.specs.Reading.{IsGoodAs, HasCauseAs, IsOptional, IsUidOf, IsStampOf, IsSequenceOf, IsPercentOf, IsPriorityOf}
use Rattle.itip_todo.specs.Reading.{IsMomentOf, IsStatusOf, IsPropertyOf, IsOrganizerOf, whole_property, value_of, ListMoments, first_of}
use Rattle.itip_todo.specs.Reading.{range_of, key_of}
use Rattle.itip_todo.specs.Table.{is_same, attendee_limit}
use Rattle.itip_todo.specs.Values.{AreMoments}
use Rattle.itip_todo.specs.declared.draft.Draft.{Draft}
use Rattle.itip_todo.specs.declared.error.TodoCause.{TodoCause}
use Rattle.itip_todo.specs.Properties.{Property}
use Rattle.itip_todo.specs.declared.property_name.PropertyName.{PropertyName}
use Rattle.itip_todo.specs.declared.property_name.PropertyName.TheVariants as name

-- the moment is one of these
abbrev pub is_listed : List Moment → Moment → Bool
is_listed moments m = list_any (λ x. eq_by_cmp moment_cmp x m) moments

-- the set of the moments that lines list
pub record IsSetOf (lines : List Line) (set : BTreeSet Moment) : Type 0 where
  pub listed : List Moment
  pub list : ListMoments lines listed
  pub each : (m : Moment) → contains moment_cmp set m ≡ is_listed listed m

-- the text has no comma (44)
abbrev pub HasNoComma : List ℕ → Type 0
HasNoComma text = (i : ℕ) → i < length text → slice_index text i ≢ 44

-- the moment that the text spells with this zone was inserted into the set
pub record PutsMoment (text zone : List ℕ) (old new : BTreeSet Moment) : Type 0 where
  pub moment : Moment
  pub is : MomentText text (Some zone) moment
  pub each : (m : Moment) → contains moment_cmp new m ≡ (contains moment_cmp old m || eq_by_cmp moment_cmp moment m)

-- the moments that the text lists with these parameters were inserted into the set
pub record PutsMoments (params : List Param) (text : List ℕ) (old new : BTreeSet Moment) : Type 0 where
  pub listed : List Moment
  pub are : AreMoments params text listed
  pub each : (m : Moment) → contains moment_cmp new m ≡ (contains moment_cmp old m || is_listed listed m)

-- the attendees of these lines, and their keys
pub record HoldsAttendees (lines : List Line) (attendees : List Property) (set : BTreeSet (List ℕ)) : Type 0 where
  pub whole : attendees ≡ map whole_property lines
  pub values : AllByRecursion HasValue attendees
  pub few : length lines ≤ attendee_limit
  pub distinct : IsDistinct same_text (map key_of lines)
  pub keys : (key : List ℕ) → contains (slice_cmp nat_cmp) set key ≡ list_any (same_text key) (map key_of lines)

-- what a draft holds of a property, if these are its lines
abbrev pub Holds : Draft → PropertyName → List Line → Type 0
Holds draft name.Uid lines = IsOptional IsUidOf (first_of lines) draft.uid
Holds draft name.DtStamp lines = IsOptional IsStampOf (first_of lines) draft.stamp
Holds draft name.Sequence lines = IsOptional IsSequenceOf (first_of lines) draft.seq
Holds draft name.DeskBase lines = IsOptional IsSequenceOf (first_of lines) draft.base
Holds draft name.RecurrenceId lines = IsOptional IsMomentOf (first_of lines) draft.rid × (draft.range ≡ range_of (first_of lines))
Holds draft name.DtStart lines = IsOptional IsMomentOf (first_of lines) draft.start
Holds draft name.Due lines = IsOptional IsMomentOf (first_of lines) draft.due
Holds draft name.Status lines = IsOptional IsStatusOf (first_of lines) draft.status
Holds draft name.PercentComplete lines = IsOptional IsPercentOf (first_of lines) draft.percent
Holds draft name.Priority lines = IsOptional IsPriorityOf (first_of lines) draft.priority
Holds draft name.Summary lines = IsOptional IsPropertyOf (first_of lines) draft.summary
Holds draft name.Organizer lines = IsOptional IsOrganizerOf (first_of lines) draft.organizer
Holds draft name.Attendee lines = HoldsAttendees lines draft.attendees draft.keys
Holds draft name.RRule lines = draft.rule ≡ map value_of lines
Holds draft name.RDate lines = IsSetOf lines draft.rdates
Holds draft name.ExDate lines = IsSetOf lines draft.exdates
Holds draft name.Others lines = draft.others ≡ lines

-- what a draft holds, if these are the lines of each property above
abbrev pub IsDraftOf : (PropertyName → List Line) → Draft → Type 0
IsDraftOf above draft = (p : PropertyName) → Holds draft p (above p)

-- these lines, and one more of this property
abbrev pub more : (PropertyName → List Line) → PropertyName → Line → PropertyName → List Line
more above p line q = cond (is_same p q) (above q ++ line ∷ []) (above q)

-- a good line that is read as p is taken into the draft
pub record Takes (p : PropertyName) (line : Line) (old new : Draft) : Type 0 where
  pub good : (above : PropertyName → List Line) → IsDraftOf above old → IsGoodAs above p line
  pub draft : (above : PropertyName → List Line) → IsDraftOf above old → IsDraftOf (more above p line) new

-- this is wrong with a line that is read as p
abbrev pub Refuses : PropertyName → Line → Draft → TodoCause → Type 0
Refuses p line old c = (above : PropertyName → List Line) → IsDraftOf above old → HasCauseAs above p line c

-- the parts of a draft with this UID and DTSTAMP
abbrev pub draft_parts : List ℕ → Stamp → Draft → Parts
draft_parts uid stamp draft = record {
  uid = uid;
  stamp = stamp;
  seq = unwrap_or draft.seq 0;
  base = draft.base;
  rid = draft.rid;
  range = draft.range;
  start = draft.start;
  due = draft.due;
  status = draft.status;
  percent = draft.percent;
  priority = draft.priority;
  summary = draft.summary;
  organizer = draft.organizer;
  attendees = draft.attendees;
  rule = draft.rule;
  rdates = draft.rdates.keys;
  exdates = draft.exdates.keys;
  others = draft.others;
}

-- the to-do of a draft is lawful
abbrev pub IsLawfulDraft : Draft → Type 0
IsLawfulDraft draft =
    (uid : List ℕ) (stamp : Stamp) → draft.uid ≡ Some uid → draft.stamp ≡ Some stamp
    → IsOrdered moment_cmp draft.rdates → IsOrdered moment_cmp draft.exdates → IsLawful (draft_parts uid stamp draft)
