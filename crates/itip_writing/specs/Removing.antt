-- The message that removes attendees (RFC 5546 3.4.5): a CANCEL without STATUS that names them. Its SEQUENCE and DTSTAMP are our own
-- rules.
use Rattle.std.specs.Prelude.{◌≡◌, ◌≤◌, ◌<◌, ℕ, Bool, false, List, [], ◌∷◌, map, length, Option, Some, None}
use Rattle.std.specs.BTreeSet.{BTreeSet, contains}
use Rattle.std.specs.Cmp.Lexicographic.{slice_cmp}
use Rattle.std.specs.List.{Contains, filter, list_any}
use Rattle.std.specs.Ordering.{nat_cmp}
use Rattle.itip_moment.specs.declared.moment.Moment.{Moment}
use Rattle.itip_moment.specs.declared.stamp.Stamp.{Stamp}
use Rattle.itip_todo.specs.Participation.{same_text}
use Rattle.itip_todo.specs.Parts.{Parts}
use Rattle.itip_todo.specs.Table.{attendee_key}
use Rattle.itip_todo.specs.Properties.{Property}
use Rattle.itip_items.specs.declared.item.Item.{Item}
use Rattle.itip_items.specs.declared.key.Key.{Key}
use Rattle.itip_message.specs.declared.error.MessageRefusal.{MessageRefusal}
use Rattle.itip_state.specs.Kept.{IsKept}
use Rattle.itip_view.specs.Answers.{answer_key}
use Rattle.itip_view.specs.InQuestion.{NoneInQuestion, ShowsInQuestion}
use Rattle.itip_view.specs.declared.row.ShownAttendee.{ShownAttendee}
use Rattle.itip_report.specs.NextSequence.{IsNext}
use Rattle.itip_writing.specs.Cancelling.{notice, IsSent, IsUnread}
use Rattle.itip_writing.specs.Causes.{IfCause}
use Rattle.itip_writing.specs.Stamping.{IsEqualRevision, IsStampAfter, IsTimeSpent, later_stamp}
use Rattle.itip_writing.specs.declared.error.WritingError.{WritingError}

-- an ATTENDEE line has one of these addresses
abbrev pub is_one_of : List (List ℕ) → Property → Bool
is_one_of addresses line = list_any (λ address. same_text (attendee_key line.value) (attendee_key address)) addresses

-- the ATTENDEE lines that have one of these addresses, in their order
abbrev pub lines_of : List (List ℕ) → List Property → List Property
lines_of addresses lines = filter (is_one_of addresses) lines

-- the keys of their answers, to the to-do as a whole or to an instance
abbrev pub removed_keys : List ℕ → Option Moment → List Property → List Key
removed_keys uid id lines = map (answer_key uid id) lines

-- one of these attendees has the address
pub record ShowsOne (shown : List ShownAttendee) (address : List ℕ) : Type 0 where
  pub attendee : ShownAttendee
  pub there : Contains shown attendee
  pub same : attendee_key attendee.address ≡ attendee_key address

-- each of these addresses is that of a shown attendee
abbrev pub ShowsAll : List ShownAttendee → List (List ℕ) → Type 0
ShowsAll shown addresses = (address : List ℕ) → Contains addresses address → ShowsOne shown address

-- there is at least one address, and each is that of a shown attendee
pub record ShowsEach (shown : List ShownAttendee) (addresses : List (List ℕ)) : Type 0 where
  pub some : 0 < length addresses
  pub each : ShowsAll shown addresses

-- the item governs the row in question, which shows the attendees with each of these addresses
pub record IsRemovable (heard : List Item) (uid : List ℕ) (id : Option Moment) (addresses : List (List ℕ)) (item : Item) : Type 0 where
  pub shown : List ShownAttendee
  pub shows : ShowsInQuestion heard uid id item shown
  pub each : ShowsEach shown addresses

-- the row in question doesn't show all of them, or there are none
pub record IsNobody (heard : List Item) (uid : List ℕ) (id : Option Moment) (addresses : List (List ℕ)) : Type 0 where
  pub item : Item
  pub shown : List ShownAttendee
  pub shows : ShowsInQuestion heard uid id item shown
  pub not_each : ShowsEach shown addresses → ⊥

-- a kept answer of one of these keys has a greater sequence
pub record IsOvertaken (heard : List Item) (keys : List Key) (sequence : ℕ) : Type 0 where
  pub item : Item
  pub kept : IsKept heard item
  pub about : Contains keys item.key
  pub greater : sequence < item.eff

-- the row in question shows all of them; the next sequence, and the keys of their answers
pub record IsRemoval (heard : List Item) (uid : List ℕ) (id : Option Moment) (addresses : List (List ℕ)) (item : Item) (sequence : ℕ)
    (keys : List Key) : Type 0 where
  pub removable : IsRemovable heard uid id addresses item
  pub next : IsNext heard uid (Some sequence)
  pub keys_are : keys ≡ removed_keys uid id (lines_of addresses item.todo.attendees)

-- the to-do that removes attendees from a to-do as a whole, or from an instance, written at a moment
pub record IsRemovalOf (heard : List Item) (uid : List ℕ) (id : Option Moment) (addresses : List (List ℕ)) (at : Stamp) (parts : Parts)
    : Type 0 where
  pub item : Item
  pub sequence : ℕ
  pub keys : List Key
  pub removes : IsRemoval heard uid id addresses item sequence keys
  pub first : ¬ IsOvertaken heard keys sequence
  pub stamp : Stamp
  pub stamped : IsStampAfter (IsEqualRevision heard keys sequence) at stamp
  pub parts_are : parts ≡ notice uid item id false None (lines_of addresses item.todo.attendees) sequence stamp

-- the bytes of the message that removes them
pub record IsRemoving (heard : List Item) (uid : List ℕ) (id : Option Moment) (addresses : List (List ℕ)) (at : Stamp) (octets : List ℕ)
    : Type 0 where
  pub parts : Parts
  pub removes : IsRemovalOf heard uid id addresses at parts
  pub sent : IsSent (parts ∷ []) octets

-- all of them are shown, and no sequence is left
pub record IsRemovalSpent (heard : List Item) (uid : List ℕ) (id : Option Moment) (addresses : List (List ℕ)) : Type 0 where
  pub item : Item
  pub removable : IsRemovable heard uid id addresses item
  pub spent : IsNext heard uid None

-- an answer of one of them would overtake the removal
pub record IsRemovalOvertaken (heard : List Item) (uid : List ℕ) (id : Option Moment) (addresses : List (List ℕ)) : Type 0 where
  pub item : Item
  pub sequence : ℕ
  pub keys : List Key
  pub removes : IsRemoval heard uid id addresses item sequence keys
  pub overtaken : IsOvertaken heard keys sequence

-- an answer of one of them with the same sequence has the last possible DTSTAMP
pub record IsRemovalLate (heard : List Item) (uid : List ℕ) (id : Option Moment) (addresses : List (List ℕ)) (at : Stamp) : Type 0 where
  pub item : Item
  pub sequence : ℕ
  pub keys : List Key
  pub removes : IsRemoval heard uid id addresses item sequence keys
  pub first : ¬ IsOvertaken heard keys sequence
  pub late : IsTimeSpent (IsEqualRevision heard keys sequence) at

-- the message that removes them is refused when read
pub record IsRemovalUnread (heard : List Item) (uid : List ℕ) (id : Option Moment) (addresses : List (List ℕ)) (at : Stamp)
    (refusal : MessageRefusal) : Type 0 where
  pub parts : Parts
  pub removes : IsRemovalOf heard uid id addresses at parts
  pub unread : IsUnread (parts ∷ []) refusal

-- why there is no such message: the first cause that applies
abbrev pub CannotRemove : List Item → List ℕ → Option Moment → List (List ℕ) → Stamp → WritingError → Type 0
CannotRemove heard uid id addresses at =
    IfCause (NoneInQuestion heard uid id) (IsNobody heard uid id addresses) (IsRemovalSpent heard uid id addresses)
    (IsRemovalOvertaken heard uid id addresses) ⊥ (IsRemovalLate heard uid id addresses at) (IsRemovalUnread heard uid id addresses at)

-- ---- keys that are looked up (our own form)

-- the set has the keys of these, and no others
abbrev pub HasKeys : {X : Type 0} → (X → List ℕ) → List X → BTreeSet (List ℕ) → Type 0
HasKeys key_of xs set = (key : List ℕ) → contains (slice_cmp nat_cmp) set key ≡ list_any (λ x. same_text key (key_of x)) xs

-- ---- one answer after the other (our own form)

-- the answer, if there is one, has no greater sequence
abbrev pub IsNoGreater : ℕ → Option Item → Type 0
IsNoGreater sequence None = Unit {0}
IsNoGreater sequence (Some answer) = answer.eff ≤ sequence

-- there is an answer, and it has a greater sequence
abbrev pub IsGreater : ℕ → Option Item → Type 0
IsGreater sequence None = ⊥
IsGreater sequence (Some answer) = sequence < answer.eff

-- the later of two stamps, each of which may be absent
abbrev pub with_stamp : Option Stamp → Option Stamp → Option Stamp
with_stamp latest None = latest
with_stamp latest (Some stamp) = Some (later_stamp latest stamp)
