-- Which attendees are asked by those items of a UID that rows can come from, sorted for binary search (our own form).
use Rattle.std.specs.Prelude.{◌≡◌, ◌++◌, ℕ, Bool, true, false, List, Option, Some, None}
use Rattle.std.specs.List.{Contains}
use Rattle.std.specs.List.Sorted.{IsSortedBy}
use Rattle.std.specs.Option.{option_copied, option_cmp}
use Rattle.std.specs.Ordering.{nat_cmp, is_lt, then_cmp, on}
use Rattle.std.specs.Cmp.Lexicographic.{slice_cmp}
use Rattle.std.specs.declared.cmp.Ordering.{Ordering}
use Rattle.itip_moment.specs.declared.moment.Moment.{Moment}
use Rattle.itip_items.specs.declared.item.Item.{Item}
use Rattle.itip_items.specs.declared.key.Key.{Key}
use Rattle.itip_items.specs.declared.key.Key.TheVariants.{Series, Instance, Range, Answer, Refresh}
use Rattle.itip_view.specs.RowDays.{has_rows}
use Rattle.itip_report.specs.Lines.{place_cmp}
use Rattle.itip_explain.specs.Fates.{HasAttendee}
use Rattle.itip_explain.specs.declared.asked.Asking.{Asking}

-- the key of the item that asks, or `None` for the to-do as a whole
abbrev pub by_of : Asking → Option Key
by_of asking = option_copied asking.by

-- that key, and the key of the attendee
abbrev pub AskedPair : Type 0
AskedPair = Option Key × List ℕ

abbrev pub pair_of : Asking → AskedPair
pair_of asking = (by_of asking, asking.attendee)

-- ordered with the to-do as a whole first, then by the key of the item, then by attendee
abbrev pub pair_cmp : AskedPair → AskedPair → Ordering
pair_cmp = then_cmp (on (λ p. p.0) (option_cmp place_cmp)) (on (λ p. p.1) (slice_cmp nat_cmp))

-- items with these keys also ask for the to-do as a whole: series and range items
abbrev pub is_of_whole : Key → Bool
is_of_whole (Series uid) = true
is_of_whole (Instance uid id) = false
is_of_whole (Range uid id) = true
is_of_whole (Answer uid id attendee) = false
is_of_whole (Refresh uid id attendee) = false

-- an item that rows can come from asks the attendee, for itself or for the to-do as a whole
abbrev pub AsksBy : Item → Option Key → List ℕ → Type 0
AsksBy item None attendee = (has_rows item ≡ true) × (is_of_whole item.key ≡ true) × HasAttendee item attendee
AsksBy item (Some key) attendee = (has_rows item ≡ true) × (item.key ≡ key) × HasAttendee item attendee

-- one of the items asks the attendee so
pub record IsAskedBy (items : List Item) (by : Option Key) (attendee : List ℕ) : Type 0 where
  pub item : Item
  pub there : Contains items item
  pub asks : AsksBy item by attendee

-- such an asking is among those found
pub record IsFoundBy (found : List Asking) (by : Option Key) (attendee : List ℕ) : Type 0 where
  pub asking : Asking
  pub there : Contains found asking
  pub by_is : by_of asking ≡ by
  pub attendee_is : asking.attendee ≡ attendee

-- what is found is what is asked, and nothing else
pub record AreAskings (IsAsked : Option Key → List ℕ → Type 0) (found : List Asking) : Type 0 where
  pub each : (asking : Asking) → Contains found asking → IsAsked (by_of asking) asking.attendee
  pub all : (by : Option Key) (attendee : List ℕ) → IsAsked by attendee → IsFoundBy found by attendee

-- the same, after what was found before
pub record AddsAskings (IsAsked : Option Key → List ℕ → Type 0) (before after : List Asking) : Type 0 where
  pub found : List Asking
  pub added : after ≡ before ++ found
  pub are : AreAskings IsAsked found

-- all that the items ask, in order
pub record AreInOrder (items : List Item) (found : List Asking) : Type 0 where
  pub up : IsSortedBy (λ a b. is_lt (pair_cmp (pair_of a) (pair_of b))) found
  pub are : AreAskings (IsAskedBy items) found

-- the key under which the attendees of the item that governs a row in question are looked for; `None` for the to-do as a whole
abbrev pub asking_key : Item → Option Moment → Option Key
asking_key governing None = None
asking_key governing (Some at) = Some governing.key
