-- The refresh request that an attendee sends (RFC 5546 3.4.6). What it is about, and its DTSTAMP, are our own rules.
use Rattle.std.specs.Prelude.{◌≡◌, ◌⊎◌, ℕ, List, [], ◌∷◌, Option, None}
use Rattle.itip_moment.specs.declared.moment.Moment.{Moment}
use Rattle.itip_moment.specs.declared.stamp.Stamp.{Stamp}
use Rattle.itip_todo.specs.Parts.{Parts}
use Rattle.itip_todo.specs.Table.{attendee_key}
use Rattle.itip_todo.specs.Properties.{Property}
use Rattle.itip_items.specs.declared.item.Item.{Item}
use Rattle.itip_items.specs.declared.key.Key.{Key}
use Rattle.itip_items.specs.declared.key.Key.TheVariants as key
use Rattle.itip_items.specs.declared.kind.Method.TheVariants as method
use Rattle.itip_message.specs.Message.{RefusesMessage}
use Rattle.itip_message.specs.declared.error.MessageRefusal.{MessageRefusal}
use Rattle.itip_state.specs.Kept.{IsKept}
use Rattle.itip_view.specs.InQuestion.{NoneInQuestion}
use Rattle.itip_writing.specs.Causes.{IfCause}
use Rattle.itip_writing.specs.Replying.{IsAsked, ShowsNone, reply_parts}
use Rattle.itip_writing.specs.Sent.{sent_octets, IsReadable}
use Rattle.itip_writing.specs.Stamping.{IsEqualRevision, IsStampAfter, IsTimeSpent}
use Rattle.itip_writing.specs.declared.error.WritingError.{WritingError}

-- the key of the refresh request of the attendee with an address
abbrev pub refresh_key : List ℕ → Option Moment → List ℕ → Key
refresh_key uid id address = key.Refresh uid id (attendee_key address)

-- the ATTENDEE line: the address alone
abbrev pub refresh_line : List ℕ → Property
refresh_line address = record { params = []; value = address }

-- the to-do: it has no SEQUENCE, which counts as 0
abbrev pub refresh_parts : List ℕ → Option Moment → Stamp → Option Property → List ℕ → Parts
refresh_parts uid id stamp organizer address = reply_parts uid id stamp 0 None organizer (refresh_line address)

-- the stamps that DTSTAMP has to be after: that of the kept refresh request of the key, if its sequence is 0 as well, and that of the
-- item that governs
abbrev pub IsBefore : List Item → Key → Item → Stamp → Type 0
IsBefore heard key item stamp = IsEqualRevision heard (key ∷ []) 0 stamp ⊎ (stamp ≡ item.stamp)

-- the to-do is an attendee's refresh request about the row in question, written at a moment
pub record IsRefreshOf (heard : List Item) (uid : List ℕ) (id : Option Moment) (address : List ℕ) (at : Stamp) (parts : Parts) : Type 0
  where
    pub item : Item
    pub named : List ℕ
    pub asked : IsAsked heard uid id address item named
    pub stamp : Stamp
    pub stamp_is : IsStampAfter (IsBefore heard (refresh_key uid id named) item) at stamp
    pub parts_are : parts ≡ refresh_parts uid id stamp item.todo.organizer named

-- the bytes of the refresh request, which are read as a message
pub record IsRefresh (heard : List Item) (uid : List ℕ) (id : Option Moment) (address : List ℕ) (at : Stamp) (octets : List ℕ) : Type 0
  where
    pub parts : Parts
    pub wants : IsRefreshOf heard uid id address at parts
    pub octets_are : octets ≡ sent_octets method.Refresh (parts ∷ [])
    pub readable : IsReadable octets

-- the last possible DTSTAMP is among those that have to be earlier
pub record IsRefreshLate (heard : List Item) (uid : List ℕ) (id : Option Moment) (address : List ℕ) (at : Stamp) : Type 0 where
  pub item : Item
  pub named : List ℕ
  pub asked : IsAsked heard uid id address item named
  pub late : IsTimeSpent (IsBefore heard (refresh_key uid id named) item) at

-- the refresh request is refused when read
pub record IsRefreshUnread (heard : List Item) (uid : List ℕ) (id : Option Moment) (address : List ℕ) (at : Stamp)
    (refusal : MessageRefusal) : Type 0 where
  pub parts : Parts
  pub wants : IsRefreshOf heard uid id address at parts
  pub refused : RefusesMessage (sent_octets method.Refresh (parts ∷ [])) refusal

-- why there is no such message: the first cause that applies
abbrev pub CannotRefresh : List Item → List ℕ → Option Moment → List ℕ → Stamp → WritingError → Type 0
CannotRefresh heard uid id address at =
    IfCause (NoneInQuestion heard uid id) (ShowsNone heard uid id address) ⊥ ⊥ ⊥ (IsRefreshLate heard uid id address at)
    (IsRefreshUnread heard uid id address at)

-- no kept refresh request of the attendee with an address has a SEQUENCE above 0
abbrev pub NoneSequenced : List Item → List ℕ → Option Moment → List ℕ → Type 0
NoneSequenced heard uid id address = (item : Item) → IsKept heard item → item.key ≡ refresh_key uid id address → item.own ≡ 0
