-- A request that an organizer sends (RFC 5546 3.4.2): the to-dos of a draft, each with the next SEQUENCE of its UID and the moment of
-- writing (our own rule).
use Rattle.std.specs.Prelude.{◌≡◌, ◌≢◌, ℕ, Bool, false, ◌&&◌, ◌||◌, List, [], ◌∷◌, ◌++◌, map, Option, Some, None}
use Rattle.std.specs.BTreeMap.{BTreeMap, get}
use Rattle.std.specs.Cmp.Lexicographic.{slice_cmp}
use Rattle.std.specs.List.{AllByRecursion, AllPairs, AllZip, Contains, list_any}
use Rattle.std.specs.Option.{option_cmp, option_eq}
use Rattle.std.specs.Ordering.{bool_cmp, eq_by_cmp, nat_cmp, ordering_then}
use Rattle.std.specs.declared.cmp.Ordering.{Ordering}
use Rattle.itip_moment.specs.Order.{moment_cmp}
use Rattle.itip_moment.specs.declared.stamp.Stamp.{Stamp}
use Rattle.itip_todo.specs.Participation.{same_text}
use Rattle.itip_todo.specs.Parts.{Parts}
use Rattle.itip_todo.specs.PartsOf.{parts_of}
use Rattle.itip_todo.specs.declared.todo.Todo.{Todo}
use Rattle.itip_items.specs.Items.{canonical_base, task_draft}
use Rattle.itip_items.specs.declared.item.Item.{Item}
use Rattle.itip_items.specs.declared.key.Key.{Key}
use Rattle.itip_items.specs.declared.key.Key.TheVariants as key
use Rattle.itip_items.specs.declared.kind.Kind.TheVariants as kind
use Rattle.itip_items.specs.declared.kind.Method.TheVariants as method
use Rattle.itip_message.specs.Message.{RefusesMessage}
use Rattle.itip_message.specs.declared.error.MessageRefusal.{MessageRefusal}
use Rattle.itip_view.specs.Standing.{IsLive, IsLiveSeries, IsLiveInstance, StandsFrom}
use Rattle.itip_report.specs.NextSequence.{IsNext}
use Rattle.itip_writing.specs.Causes.{IfCause}
use Rattle.itip_writing.specs.Sent.{IsReadable, sent_octets}
use Rattle.itip_writing.specs.declared.error.WritingError.{WritingError}
use mathlib.Core.Bool.{beq}

-- X-DESK-BASE if it is greater than the SEQUENCE
abbrev pub base_above : ℕ → Option ℕ → Option ℕ
base_above sequence None = None
base_above sequence (Some base) = canonical_base sequence base

-- a to-do of a draft as it is written at a moment with this SEQUENCE
abbrev pub requested : Stamp → ℕ → Parts → Parts
requested at sequence parts = record parts { stamp = at; seq = sequence; base = base_above sequence parts.base }

-- the key of the item that a to-do gives in a request, whatever its effective sequence
abbrev pub key_of : Todo → Key
key_of todo = (task_draft kind.Request todo.seq todo.rid (parts_of todo)).key

-- a to-do of a draft is written as `written`, with the next SEQUENCE of its UID
pub record IsRequested (heard : List Item) (at : Stamp) (todo written : Todo) : Type 0 where
  pub sequence : ℕ
  pub next : IsNext heard todo.uid (Some sequence)
  pub parts_are : parts_of written ≡ requested at sequence (parts_of todo)

-- each to-do of a draft is written so, in the order of the draft
abbrev pub AreRequested : List Item → Stamp → List Todo → List Todo → Type 0
AreRequested heard at draft written = AllZip (IsRequested heard at) draft written

-- no two to-dos have the same key
abbrev pub AreApart : List Todo → Type 0
AreApart all = AllPairs (λ (a b : Todo). key_of a ≢ key_of b) all

-- two of these to-dos have the same key
pub record HasTwins (all : List Todo) : Type 0 where
  pub front : List Todo
  pub first : Todo
  pub middle : List Todo
  pub second : Todo
  pub back : List Todo
  pub whole : all ≡ front ++ first ∷ (middle ++ second ∷ back)
  pub same : key_of first ≡ key_of second

-- The test for this: two to-dos have the same key if their UID, RECURRENCE-ID and RANGE are the same.
abbrev pub is_twin : Todo → Todo → Bool
is_twin todo other =
    (same_text todo.uid other.uid && option_eq (eq_by_cmp moment_cmp) todo.rid other.rid) && beq todo.range other.range

abbrev pub has_twins : List Todo → Bool
has_twins [] = false
has_twins (todo ∷ others) = list_any (is_twin todo) others || has_twins others

-- an order in which to-dos with the same key are neighbours: by UID, RECURRENCE-ID and RANGE
abbrev pub twin_cmp : Todo → Todo → Ordering
twin_cmp todo other =
    ordering_then (ordering_then (slice_cmp nat_cmp todo.uid other.uid) (option_cmp moment_cmp todo.rid other.rid))
    (bool_cmp todo.range other.range)

-- the bytes of a request, which may be too long to be read
pub record IsRequestText (heard : List Item) (draft : List Todo) (at : Stamp) (octets : List ℕ) : Type 0 where
  pub written : List Todo
  pub each : AreRequested heard at draft written
  pub apart : AreApart draft
  pub octets_are : octets ≡ sent_octets method.Request (map parts_of written)

-- the bytes of the request of a draft, written at a moment given what was heard; they can be read back
pub record IsRequest (heard : List Item) (draft : List Todo) (at : Stamp) (octets : List ℕ) : Type 0 where
  pub text : IsRequestText heard draft at octets
  pub readable : IsReadable octets

-- no SEQUENCE is left for a to-do of the draft
pub record HasNoSequence (heard : List Item) (draft : List Todo) : Type 0 where
  pub todo : Todo
  pub there : Contains draft todo
  pub last : IsNext heard todo.uid None

-- a SEQUENCE is left for each to-do of the draft
abbrev pub HaveSequences : List Item → List Todo → Type 0
HaveSequences heard draft = AllByRecursion (λ (todo : Todo). (sequence : ℕ) × IsNext heard todo.uid (Some sequence)) draft

-- the request of a draft is refused for this cause
pub record IsRefusedRequest (heard : List Item) (draft : List Todo) (at : Stamp) (refusal : MessageRefusal) : Type 0 where
  pub octets : List ℕ
  pub text : IsRequestText heard draft at octets
  pub refused : RefusesMessage octets refusal

-- why the request of a draft can't be written: the first cause that applies
abbrev pub CannotRequest : List Item → List Todo → Stamp → WritingError → Type 0
CannotRequest heard draft at =
    IfCause ⊥ ⊥ (HasNoSequence heard draft) ⊥ (HaveSequences heard draft × HasTwins draft) ⊥ (IsRefusedRequest heard draft at)

-- the map has the next SEQUENCE of each UID that is in it
abbrev pub AreNext : List Item → BTreeMap (List ℕ) ℕ → Type 0
AreNext heard known = (uid : List ℕ) (sequence : ℕ) → get (slice_cmp nat_cmp) known uid ≡ Some sequence → IsNext heard uid (Some sequence)

-- a live item is the latest of its key, and stands: the series item, or an instance or range item
abbrev pub StandsLive : List Item → Key → Item → Type 0
StandsLive heard (key.Series uid) item = IsLiveSeries heard uid item
StandsLive heard (key.Instance uid id) item = IsLiveInstance heard uid id item
StandsLive heard (key.Range uid id) item = StandsFrom heard uid id item × IsLive item
StandsLive heard (key.Answer uid id attendee) item = ⊥
StandsLive heard (key.Refresh uid id attendee) item = ⊥
