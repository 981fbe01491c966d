-- The messages that cancel a to-do, an instance of it, or an instance and all after it (RFC 5546 3.4.5). Their SEQUENCE and DTSTAMP,
-- and what else is cancelled along with an instance and all after it, are our own rules.
use Rattle.std.specs.Prelude.{◌≡◌, ◌⊎◌, ℕ, Bool, true, false, cond, List, [], ◌∷◌, map, Option, Some, None}
use Rattle.std.specs.List.{Contains, AllPairs, list_any}
use Rattle.std.specs.Option.{is_none, option_cmp}
use Rattle.std.specs.Ordering.{nat_cmp, ordering_then}
use Rattle.std.specs.declared.cmp.Ordering.{Ordering}
use Rattle.std.specs.declared.cmp.Ordering.TheVariants.{Less, Greater}
use Rattle.itip_moment.specs.Order.{moment_cmp}
use Rattle.itip_moment.specs.declared.moment.Moment.{Moment}
use Rattle.itip_moment.specs.declared.stamp.Stamp.{Stamp}
use Rattle.itip_todo.specs.Parts.{Parts}
use Rattle.itip_todo.specs.Properties.{Property}
use Rattle.itip_todo.specs.declared.property_name.PropertyName.{PropertyName}
use Rattle.itip_todo.specs.declared.property_name.PropertyName.TheVariants as name
use Rattle.itip_todo.specs.declared.status.Status.{Status}
use Rattle.itip_todo.specs.declared.status.Status.TheVariants as status
use Rattle.itip_items.specs.Items.{instance_key, one_if}
use Rattle.itip_items.specs.declared.item.Item.{Item}
use Rattle.itip_items.specs.declared.key.Key.{Key}
use Rattle.itip_items.specs.declared.key.Key.TheVariants as key
use Rattle.itip_items.specs.declared.kind.Method.TheVariants as method
use Rattle.itip_message.specs.Message.{RefusesMessage}
use Rattle.itip_message.specs.declared.error.MessageRefusal.{MessageRefusal}
use Rattle.itip_view.specs.InQuestion.{IsInQuestion, NoneInQuestion}
use Rattle.itip_view.specs.Standing.{IsLive, HaveOneForm, Reaches, StandsFrom, IsLiveInstance}
use Rattle.itip_report.specs.NextSequence.{IsNext}
use Rattle.itip_writing.specs.Causes.{IfCause}
use Rattle.itip_writing.specs.Sent.{IsReadable, sent_octets}
use Rattle.itip_writing.specs.Stamping.{IsEqualRevision, IsStampAfter}
use Rattle.itip_writing.specs.declared.error.WritingError.{WritingError}

-- a to-do of a CANCEL: its ORGANIZER is that of an item, and it goes to these attendees
abbrev pub notice : List ℕ → Item → Option Moment → Bool → Option Status → List Property → ℕ → Stamp → Parts
notice uid item id range state attendees sequence stamp = record {
  uid = uid;
  stamp = stamp;
  seq = sequence;
  base = None;
  rid = id;
  range = range;
  start = None;
  due = None;
  status = state;
  percent = None;
  priority = None;
  summary = None;
  organizer = item.todo.organizer;
  attendees = attendees;
  rule = [];
  rdates = [];
  exdates = [];
  others = [];
}

-- a notice that cancels the to-do as a whole, an instance, or an instance and all after it, and goes to all attendees of the item
abbrev pub cancelled : List ℕ → Item → Option Moment → Bool → ℕ → Stamp → Parts
cancelled uid item id range sequence stamp = notice uid item id range (Some status.Cancelled) item.todo.attendees sequence stamp

-- the key of what is cancelled
abbrev pub cancelled_key : List ℕ → Option Moment → Bool → Key
cancelled_key uid None range = key.Series uid
cancelled_key uid (Some id) range = instance_key range uid id

-- the bytes of a CANCEL with these to-dos, which can be read back
pub record IsSent (all : List Parts) (octets : List ℕ) : Type 0 where
  pub octets_are : octets ≡ sent_octets method.Cancel all
  pub readable : IsReadable octets

-- the bytes of a CANCEL with these to-dos are refused
abbrev pub IsUnread : List Parts → MessageRefusal → Type 0
IsUnread all refusal = RefusesMessage (sent_octets method.Cancel all) refusal

-- an item governs the row in question
pub record HasRow (heard : List Item) (uid : List ℕ) (id : Option Moment) : Type 0 where
  pub item : Item
  pub governs : IsInQuestion heard uid id item

-- there is a row in question, and no sequence is left
pub record IsCancelSpent (heard : List Item) (uid : List ℕ) (id : Option Moment) : Type 0 where
  pub there : HasRow heard uid id
  pub last : IsNext heard uid None

-- The to-do that cancels a to-do as a whole, or an instance, written at a moment: the item that governs the row in question says from
-- whom it comes and to whom it goes.
pub record IsCancelOf (heard : List Item) (uid : List ℕ) (id : Option Moment) (at : Stamp) (parts : Parts) : Type 0 where
  pub item : Item
  pub governs : IsInQuestion heard uid id item
  pub sequence : ℕ
  pub next : IsNext heard uid (Some sequence)
  pub stamp : Stamp
  pub stamped : IsStampAfter (IsEqualRevision heard (cancelled_key uid id false ∷ []) sequence) at stamp
  pub parts_are : parts ≡ cancelled uid item id false sequence stamp

-- the bytes of the message that cancels a to-do as a whole, or an instance
pub record IsCancelling (heard : List Item) (uid : List ℕ) (id : Option Moment) (at : Stamp) (octets : List ℕ) : Type 0 where
  pub parts : Parts
  pub cancels : IsCancelOf heard uid id at parts
  pub sent : IsSent (parts ∷ []) octets

-- the message that cancels it is refused when read
pub record IsCancelUnread (heard : List Item) (uid : List ℕ) (id : Option Moment) (at : Stamp) (refusal : MessageRefusal) : Type 0 where
  pub parts : Parts
  pub cancels : IsCancelOf heard uid id at parts
  pub unread : IsUnread (parts ∷ []) refusal

-- why there is no such message: the first cause that applies
abbrev pub CannotCancel : List Item → List ℕ → Option Moment → Stamp → WritingError → Type 0
CannotCancel heard uid id at =
    IfCause (NoneInQuestion heard uid id) ⊥ (IsCancelSpent heard uid id) ⊥ ⊥ ⊥ (IsCancelUnread heard uid id at)

-- ---- an instance and all after it

-- a moment is after another, and of its form and zone
pub record IsAfter (from at : Moment) : Type 0 where
  pub one_form : HaveOneForm from at
  pub later : moment_cmp at from ≡ Greater

-- a live instance item stands at a moment or after it
pub record EndsInstance (heard : List Item) (uid : List ℕ) (from id : Moment) (item : Item) : Type 0 where
  pub live : IsLiveInstance heard uid id item
  pub reached : Reaches from id

-- a live range item stands after a moment
pub record EndsRange (heard : List Item) (uid : List ℕ) (from id : Moment) (item : Item) : Type 0 where
  pub stands : StandsFrom heard uid id item
  pub live : IsLive item
  pub after : IsAfter from id

-- What is cancelled, and the item that says from whom and to whom: all from the moment on, with the item that governs the row in
-- question; each live instance that stands at the moment or after it, and each live range that stands after it, with its own item.
abbrev pub Ends : List Item → List ℕ → Moment → Moment → Bool → Item → Type 0
Ends heard uid from id false item = EndsInstance heard uid from id item
Ends heard uid from id true item = ((id ≡ from) × IsInQuestion heard uid (Some from) item) ⊎ EndsRange heard uid from id item

-- a to-do that cancels one of these
pub record IsEnding (heard : List Item) (uid : List ℕ) (from : Moment) (sequence : ℕ) (stamp : Stamp) (parts : Parts) : Type 0 where
  pub id : Moment
  pub range : Bool
  pub item : Item
  pub ends : Ends heard uid from id range item
  pub parts_are : parts ≡ cancelled uid item (Some id) range sequence stamp

-- ordered by moment, an instance before the range of its moment
abbrev pub ending_cmp : Parts → Parts → Ordering
ending_cmp a b = ordering_then (option_cmp moment_cmp a.rid b.rid) (nat_cmp (one_if a.range) (one_if b.range))

-- the to-dos that cancel all of these, in their order, each once
pub record AreEndings (heard : List Item) (uid : List ℕ) (from : Moment) (sequence : ℕ) (stamp : Stamp) (all : List Parts) : Type 0 where
  pub ascend : AllPairs (λ (a b : Parts). ending_cmp a b ≡ Less) all
  pub each : (parts : Parts) → Contains all parts → IsEnding heard uid from sequence stamp parts
  pub every : (parts : Parts) → IsEnding heard uid from sequence stamp parts → Contains all parts

-- the keys of what these cancel
abbrev pub ended_keys : List ℕ → List Parts → List Key
ended_keys uid all = map (λ (parts : Parts). cancelled_key uid parts.rid parts.range) all

-- the to-dos that cancel an instance and all after it, written at a moment
pub record IsOnwardOf (heard : List Item) (uid : List ℕ) (from : Moment) (at : Stamp) (all : List Parts) : Type 0 where
  pub there : HasRow heard uid (Some from)
  pub sequence : ℕ
  pub next : IsNext heard uid (Some sequence)
  pub stamp : Stamp
  pub stamped : IsStampAfter (IsEqualRevision heard (ended_keys uid all) sequence) at stamp
  pub are : AreEndings heard uid from sequence stamp all

-- the bytes of the message that cancels an instance and all after it
pub record IsCancellingOnward (heard : List Item) (uid : List ℕ) (from : Moment) (at : Stamp) (octets : List ℕ) : Type 0 where
  pub all : List Parts
  pub cancels : IsOnwardOf heard uid from at all
  pub sent : IsSent all octets

-- the message that cancels them is refused when read
pub record IsOnwardUnread (heard : List Item) (uid : List ℕ) (from : Moment) (at : Stamp) (refusal : MessageRefusal) : Type 0 where
  pub all : List Parts
  pub cancels : IsOnwardOf heard uid from at all
  pub unread : IsUnread all refusal

-- why there is no such message: the first cause that applies
abbrev pub CannotCancelOnward : List Item → List ℕ → Moment → Stamp → WritingError → Type 0
CannotCancelOnward heard uid from at =
    IfCause (NoneInQuestion heard uid (Some from)) ⊥ (IsCancelSpent heard uid (Some from)) ⊥ ⊥ ⊥ (IsOnwardUnread heard uid from at)

-- ORGANIZER if one of these to-dos has none
abbrev pub lacking_among : List Parts → List PropertyName
lacking_among all = cond (list_any (λ (parts : Parts). is_none parts.organizer) all) (name.Organizer ∷ []) []

-- what RFC 5546 3.4.5 requires in such a message and one of its to-dos lacks
pub record IsOnwardLacking (heard : List Item) (uid : List ℕ) (from : Moment) (lacking : List PropertyName) : Type 0 where
  pub there : HasRow heard uid (Some from)
  pub sequence : ℕ
  pub stamp : Stamp
  pub all : List Parts
  pub are : AreEndings heard uid from sequence stamp all
  pub lacking_is : lacking ≡ lacking_among all
