-- What became of an item that was told (our own rules): the first of these that applies. It is overtaken, it is dead, or it is kept;
-- what is kept stands or cancels, counts or doesn't, waits or is answered. A place is that of the first message to tell an item.
use Rattle.std.specs.Prelude.{◌≡◌, ◌⊎◌, ◌<◌, ◌≤◌, ℕ, Bool, true, false, List, Option, Some, None, if◌then◌else◌}
use Rattle.std.specs.List.{Contains}
use Rattle.itip_moment.specs.declared.moment.Moment.{Moment}
use Rattle.itip_todo.specs.Table.{attendee_key}
use Rattle.itip_todo.specs.Properties.{Property}
use Rattle.itip_items.specs.RevisionOrder.{IsLater}
use Rattle.itip_items.specs.declared.item.Item.{Item}
use Rattle.itip_items.specs.declared.key.Key.{Key}
use Rattle.itip_items.specs.declared.key.Key.TheVariants.{Series, Instance, Range, Answer, Refresh}
use Rattle.itip_items.specs.declared.kind.Kind.{Kind}
use Rattle.itip_state.specs.Kept.{IsBest, IsDead, IsKept}
use Rattle.itip_view.specs.InQuestion.{IsInQuestion, NoneInQuestion}
use Rattle.itip_view.specs.Standing.{is_live, IsLive, StandsUnder, StandsFrom, Governs}
use Rattle.itip_report.specs.Reports.{IsWanted}
use Rattle.itip_explain.specs.Told.{heard_of, IsFirstToTell}
use Rattle.itip_explain.specs.declared.fate.Fate.{Fate}
use Rattle.itip_explain.specs.declared.fate.Fate.TheVariants as fate
use Rattle.itip_explain.specs.declared.told.Place.{Place}
use Rattle.itip_explain.specs.declared.told.ToldItem.{ToldItem}

-- 1. another item of its key is later; the place is where the latest was first told
pub record IsOvertaken (told : List ToldItem) (item : Item) (became : Fate) : Type 0 where
  pub latest : Item
  pub best : IsBest (heard_of told) item.key latest
  pub later : IsLater latest item
  pub place : Place
  pub first : IsFirstToTell told latest place
  pub became_is : became ≡ fate.OvertakenBy place

-- 2. it is dead; the place is where the best series item was first told
pub record IsVoid (told : List ToldItem) (item : Item) (became : Fate) : Type 0 where
  pub best : IsBest (heard_of told) item.key item
  pub dead : IsDead (heard_of told) item
  pub place : Place
  pub first : IsFirstToTell told dead.series place
  pub became_is : became ≡ fate.VoidBy place

-- 3. an item that stands: it is live, or it cancels
abbrev pub standing_fate : Kind → Fate → Fate
standing_fate kind cancels = if is_live kind then fate.Stands else cancels

-- a kept instance or range item that doesn't stand; the place is where the series item, which is cancelled, was first told
pub record IsCancelledToo (told : List ToldItem) (uid : List ℕ) (key : Key) (item : Item) (became : Fate) : Type 0 where
  pub not_standing : StandsUnder (heard_of told) uid key item → ⊥
  pub series : Item
  pub best : IsBest (heard_of told) (Series uid) series
  pub place : Place
  pub first : IsFirstToTell told series place
  pub became_is : became ≡ fate.CancelledWithToDoBy place

-- a kept instance or range item
abbrev pub IsOverrideFate : List ToldItem → List ℕ → Key → Fate → Item → Fate → Type 0
IsOverrideFate told uid key cancels item became =
    (StandsUnder (heard_of told) uid key item × (became ≡ standing_fate item.kind cancels)) ⊎ IsCancelledToo told uid key item became

-- one of these lines is of the attendee with a key
pub record IsNamed (lines : List Property) (attendee : List ℕ) : Type 0 where
  pub line : Property
  pub there : Contains lines line
  pub same : attendee_key line.value ≡ attendee

-- an item has an ATTENDEE with this key
abbrev pub HasAttendee : Item → List ℕ → Type 0
HasAttendee item attendee = IsNamed item.todo.attendees attendee

-- a live range item that stands has an ATTENDEE with this key
pub record IsOfRange (heard : List Item) (uid attendee : List ℕ) : Type 0 where
  pub id : Moment
  pub range : Item
  pub stands : StandsFrom heard uid id range
  pub live : IsLive range
  pub has : HasAttendee range attendee

-- The attendee of an answer is one of the item that governs the row in question or, for an answer to the to-do as a whole, of a live
-- range item that stands.
abbrev pub IsAttendee : List Item → List ℕ → Option Moment → Item → List ℕ → Type 0
IsAttendee heard uid None governing attendee = HasAttendee governing attendee ⊎ IsOfRange heard uid attendee
IsAttendee heard uid (Some at) governing attendee = HasAttendee governing attendee

-- 4. an answer to an earlier revision than that of the item that governs the row in question; the place is where this item was first told
pub record IsOlder (told : List ToldItem) (governing item : Item) (became : Fate) : Type 0 where
  pub older : item.own < governing.own
  pub place : Place
  pub first : IsFirstToTell told governing place
  pub became_is : became ≡ fate.ForOlderThan place

-- an answer from no such attendee; the place is that of the same item
pub record IsStranger (told : List ToldItem) (uid : List ℕ) (id : Option Moment) (attendee : List ℕ) (governing : Item) (became : Fate)
    : Type 0 where
  pub no_attendee : IsAttendee (heard_of told) uid id governing attendee → ⊥
  pub place : Place
  pub first : IsFirstToTell told governing place
  pub became_is : became ≡ fate.FromNoAttendeeOf place

-- an answer that is not to an earlier revision: it counts if it is from an attendee
pub record IsNotOlder (told : List ToldItem) (uid : List ℕ) (id : Option Moment) (attendee : List ℕ) (governing item : Item)
    (became : Fate) : Type 0 where
  pub since : governing.own ≤ item.own
  pub by_attendee : (IsAttendee (heard_of told) uid id governing attendee × (became ≡ fate.Counts)) ⊎
      IsStranger told uid id attendee governing became

-- an answer, given the item that governs the row in question
abbrev pub IsUnder : List ToldItem → List ℕ → Option Moment → List ℕ → Item → Item → Fate → Type 0
IsUnder told uid id attendee governing item became =
    IsOlder told governing item became ⊎ IsNotOlder told uid id attendee governing item became

-- an answer, if a row is in question
pub record IsAboutRow (told : List ToldItem) (uid : List ℕ) (id : Option Moment) (attendee : List ℕ) (item : Item) (became : Fate)
    : Type 0 where
  pub governing : Item
  pub in_question : IsInQuestion (heard_of told) uid id governing
  pub under : IsUnder told uid id attendee governing item became

-- a kept answer, or a removal
abbrev pub IsAnswerFate : List ToldItem → List ℕ → Option Moment → List ℕ → Item → Fate → Type 0
IsAnswerFate told uid id attendee item became =
    (NoneInQuestion (heard_of told) uid id × (became ≡ fate.AboutNothing)) ⊎ IsAboutRow told uid id attendee item became

-- nothing governs a to-do as a whole, or an instance
abbrev pub NoneGoverns : List Item → List ℕ → Option Moment → Type 0
NoneGoverns heard uid id = (item : Item) → ¬ Governs heard uid id item

-- 5. a refresh request waits if the refresh report has it, and is answered otherwise
abbrev pub IsWaitingOrAnswered : List Item → Item → Fate → Type 0
IsWaitingOrAnswered heard item became =
    (IsWanted heard item × (became ≡ fate.Waits)) ⊎ ((IsWanted heard item → ⊥) × (became ≡ fate.IsAnswered))

-- a refresh request, if something governs what it names
pub record IsRefreshOf (told : List ToldItem) (uid : List ℕ) (id : Option Moment) (item : Item) (became : Fate) : Type 0 where
  pub governing : Item
  pub governs : Governs (heard_of told) uid id governing
  pub by_report : IsWaitingOrAnswered (heard_of told) item became

-- a refresh request that is wanted waits, any other is answered
abbrev pub waiting_fate : Bool → Fate
waiting_fate true = fate.Waits
waiting_fate false = fate.IsAnswered

-- a kept refresh request
abbrev pub IsRefreshFate : List ToldItem → List ℕ → Option Moment → Item → Fate → Type 0
IsRefreshFate told uid id item became =
    (NoneGoverns (heard_of told) uid id × (became ≡ fate.AboutNothing)) ⊎ IsRefreshOf told uid id item became

-- a kept item, by its key
abbrev pub IsFateAt : List ToldItem → Key → Item → Fate → Type 0
IsFateAt told (Series uid) item became = became ≡ standing_fate item.kind fate.CancelsToDo
IsFateAt told (Instance uid id) item became = IsOverrideFate told uid (Instance uid id) fate.CancelsInstance item became
IsFateAt told (Range uid id) item became = IsOverrideFate told uid (Range uid id) fate.CancelsOnward item became
IsFateAt told (Answer uid id attendee) item became = IsAnswerFate told uid id attendee item became
IsFateAt told (Refresh uid id attendee) item became = IsRefreshFate told uid id item became

pub record IsFateOfKept (told : List ToldItem) (item : Item) (became : Fate) : Type 0 where
  pub kept : IsKept (heard_of told) item
  pub by_key : IsFateAt told item.key item became

-- what became of an item
abbrev pub IsFate : List ToldItem → Item → Fate → Type 0
IsFate told item became = IsOvertaken told item became ⊎ (IsVoid told item became ⊎ IsFateOfKept told item became)
