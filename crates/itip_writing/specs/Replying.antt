-- The answer that an attendee sends (RFC 5546 3.4.3). What it answers, and its SEQUENCE and DTSTAMP, are our own rules.
use Rattle.std.specs.Prelude.{◌≡◌, ◌⊎◌, ℕ, false, max, List, [], ◌∷◌, codes, Option, Some, None}
use Rattle.std.specs.List.{Contains}
use Rattle.itip_moment.specs.declared.moment.Moment.{Moment}
use Rattle.itip_moment.specs.declared.stamp.Stamp.{Stamp}
use Rattle.itip_todo.specs.Participation.{partstat_text}
use Rattle.itip_todo.specs.Parts.{Parts}
use Rattle.itip_todo.specs.Table.{attendee_key}
use Rattle.itip_todo.specs.declared.attendee.PartStat.{PartStat}
use Rattle.itip_todo.specs.Properties.{Property}
use Rattle.itip_todo.specs.declared.property_name.PropertyName.{PropertyName}
use Rattle.itip_items.specs.declared.item.Item.{Item}
use Rattle.itip_items.specs.declared.key.Key.{Key}
use Rattle.itip_items.specs.declared.key.Key.TheVariants as key
use Rattle.itip_items.specs.declared.kind.Method.TheVariants as method
use Rattle.itip_message.specs.Message.{RefusesMessage}
use Rattle.itip_message.specs.declared.error.MessageRefusal.{MessageRefusal}
use Rattle.itip_view.specs.Answers.{NoneCounts}
use Rattle.itip_view.specs.InQuestion.{IsInQuestion, NoneInQuestion, ShowsInQuestion}
use Rattle.itip_view.specs.Rows.{IsOccurrenceRow, IsSingleRow, IsOpaqueRow}
use Rattle.itip_view.specs.declared.row.Row.{Row}
use Rattle.itip_view.specs.declared.row.ShownAttendee.{ShownAttendee}
use Rattle.itip_view.specs.declared.window.Window.{Window}
use Rattle.itip_writing.specs.Causes.{IfCause}
use Rattle.itip_writing.specs.Lacking.{lacking_organizer}
use Rattle.itip_writing.specs.Sent.{sent_octets, IsReadable}
use Rattle.itip_writing.specs.Stamping.{IsEqualRevision, IsKeptOf, IsStampAfter, IsTimeSpent}
use Rattle.itip_writing.specs.declared.answer.Answer.{Answer}
use Rattle.itip_writing.specs.declared.error.WritingError.{WritingError}

-- ---- the attendee in question

-- a shown attendee has the address
abbrev pub IsOfAddress : List ℕ → ShownAttendee → Type 0
IsOfAddress address attendee = attendee_key attendee.address ≡ attendee_key address

-- The row in question shows the attendee with an address; `named` is the address as the row shows it.
pub record IsAsked (heard : List Item) (uid : List ℕ) (id : Option Moment) (address : List ℕ) (item : Item) (named : List ℕ) : Type 0
  where
    pub shown : List ShownAttendee
    pub shows : ShowsInQuestion heard uid id item shown
    pub attendee : ShownAttendee
    pub there : Contains shown attendee
    pub same : IsOfAddress address attendee
    pub named_is : named ≡ attendee.address

-- the row in question shows no attendee with an address
pub record ShowsNone (heard : List Item) (uid : List ℕ) (id : Option Moment) (address : List ℕ) : Type 0 where
  pub item : Item
  pub shown : List ShownAttendee
  pub shows : ShowsInQuestion heard uid id item shown
  pub none : (attendee : ShownAttendee) → Contains shown attendee → IsOfAddress address attendee → ⊥

-- why no attendee is in question
abbrev pub IsNotAsked : List Item → List ℕ → Option Moment → List ℕ → WritingError → Type 0
IsNotAsked heard uid id address = IfCause (NoneInQuestion heard uid id) (ShowsNone heard uid id address) ⊥ ⊥ ⊥ ⊥ (λ _. ⊥)

-- what a message about the row in question lacks: ORGANIZER if the item that governs the row has none
pub record IsLacking (heard : List Item) (uid : List ℕ) (id : Option Moment) (lacking : List PropertyName) : Type 0 where
  pub item : Item
  pub governs : IsInQuestion heard uid id item
  pub lacking_is : lacking ≡ lacking_organizer item.todo.organizer

-- ---- the answer

-- the key of the answer of the attendee with an address
abbrev pub answer_key : List ℕ → Option Moment → List ℕ → Key
answer_key uid id address = key.Answer uid id (attendee_key address)

-- the greater of a sequence and that of an answer, if there is one
abbrev pub no_less : ℕ → Option Item → ℕ
no_less own None = own
no_less own (Some answer) = max own answer.own

-- SEQUENCE of an answer: the greater of that of the item that governs and that of the kept answer of the key
pub record IsAnswerSequence (heard : List Item) (key : Key) (own sequence : ℕ) : Type 0 where
  pub answer : Option Item
  pub kept : IsKeptOf heard key answer
  pub sequence_is : sequence ≡ no_less own answer

-- SEQUENCE and DTSTAMP of an answer that is written at a moment
pub record IsAnswerRevision (heard : List Item) (key : Key) (own : ℕ) (at : Stamp) (sequence : ℕ) (stamp : Stamp) : Type 0 where
  pub sequence_is : IsAnswerSequence heard key own sequence
  pub stamp_is : IsStampAfter (IsEqualRevision heard (key ∷ []) sequence) at stamp

-- no second is left after an answer of the same sequence
pub record IsAnswerLate (heard : List Item) (key : Key) (own : ℕ) (at : Stamp) : Type 0 where
  pub sequence : ℕ
  pub sequence_is : IsAnswerSequence heard key own sequence
  pub late : IsTimeSpent (IsEqualRevision heard (key ∷ []) sequence) at

-- the ATTENDEE line of an answer: the address, and PARTSTAT
abbrev pub answer_line : List ℕ → PartStat → Property
answer_line address status = record {
  params = (record { name = codes "PARTSTAT"; values = partstat_text status ∷ [] }) ∷ [];
  value = address;
}

-- the to-do of an answer
abbrev pub reply_parts : List ℕ → Option Moment → Stamp → ℕ → Option ℕ → Option Property → Property → Parts
reply_parts uid id stamp sequence percent organizer attendee = record {
  uid = uid;
  stamp = stamp;
  seq = sequence;
  base = None;
  rid = id;
  range = false;
  start = None;
  due = None;
  status = None;
  percent = percent;
  priority = None;
  summary = None;
  organizer = organizer;
  attendees = attendee ∷ [];
  rule = [];
  rdates = [];
  exdates = [];
  others = [];
}

-- the to-do is an attendee's answer about the row in question, written at a moment
pub record IsReplyOf (heard : List Item) (uid : List ℕ) (id : Option Moment) (answer : Answer) (at : Stamp) (parts : Parts) : Type 0
  where
    pub item : Item
    pub named : List ℕ
    pub asked : IsAsked heard uid id answer.attendee.now item named
    pub sequence : ℕ
    pub stamp : Stamp
    pub revision : IsAnswerRevision heard (answer_key uid id named) item.own at sequence stamp
    pub parts_are : parts ≡ reply_parts uid id stamp sequence answer.percent item.todo.organizer (answer_line named answer.status)

-- the bytes of the answer, which are read as a message
pub record IsReply (heard : List Item) (uid : List ℕ) (id : Option Moment) (answer : Answer) (at : Stamp) (octets : List ℕ) : Type 0
  where
    pub parts : Parts
    pub answers : IsReplyOf heard uid id answer at parts
    pub octets_are : octets ≡ sent_octets method.Reply (parts ∷ [])
    pub readable : IsReadable octets

-- an answer of the attendee with the same sequence has the last possible DTSTAMP
pub record IsReplyLate (heard : List Item) (uid : List ℕ) (id : Option Moment) (answer : Answer) (at : Stamp) : Type 0 where
  pub item : Item
  pub named : List ℕ
  pub asked : IsAsked heard uid id answer.attendee.now item named
  pub late : IsAnswerLate heard (answer_key uid id named) item.own at

-- the answer is refused when read
pub record IsReplyUnread (heard : List Item) (uid : List ℕ) (id : Option Moment) (answer : Answer) (at : Stamp) (refusal : MessageRefusal)
    : Type 0 where
  pub parts : Parts
  pub answers : IsReplyOf heard uid id answer at parts
  pub refused : RefusesMessage (sent_octets method.Reply (parts ∷ [])) refusal

-- why there is no such message: the first cause that applies
abbrev pub CannotReply : List Item → List ℕ → Option Moment → Answer → Stamp → WritingError → Type 0
CannotReply heard uid id answer at =
    IfCause (NoneInQuestion heard uid id) (ShowsNone heard uid id answer.attendee.now) ⊥ ⊥ ⊥ (IsReplyLate heard uid id answer at)
    (IsReplyUnread heard uid id answer at)

-- ---- what is promised of an answer

-- the attendee of the answer is shown with its PARTSTAT and percentage
pub record ShowsAnswer (answer : Answer) (shown : List ShownAttendee) : Type 0 where
  pub attendee : ShownAttendee
  pub there : Contains shown attendee
  pub same : IsOfAddress answer.attendee.now attendee
  pub partstat : (other : ShownAttendee) → Contains shown other → IsOfAddress answer.attendee.now other → other.partstat ≡ answer.status
  pub percent : (other : ShownAttendee) → Contains shown other → IsOfAddress answer.attendee.now other → other.percent ≡ answer.percent

-- the row in question shows the answer
pub record IsAnswered (heard : List Item) (uid : List ℕ) (id : Option Moment) (answer : Answer) : Type 0 where
  pub item : Item
  pub shown : List ShownAttendee
  pub shows : ShowsInQuestion heard uid id item shown
  pub answered : ShowsAnswer answer shown

-- the row of an occurrence that the series item governs, on which no answer of the attendee with an address to the occurrence counts
pub record IsUnansweredOccurrence (heard : List Item) (window : Window) (address : List ℕ) (row : Row) : Type 0 where
  pub of : IsOccurrenceRow heard window row
  pub none : NoneCounts heard (record { key = answer_key row.uid (Some of.at) address; since = of.item.own })

-- a row that the series item governs, on which the answer to the to-do as a whole of the attendee with an address is asked
abbrev pub AsksWhole : List Item → Window → List ℕ → Row → Type 0
AsksWhole heard window address row =
    IsUnansweredOccurrence heard window address row ⊎ (IsSingleRow heard window row ⊎ IsOpaqueRow heard window row)
