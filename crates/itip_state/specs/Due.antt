-- Which items of a UID a newer series item can make dead, the least effective sequence first (our own form).
use Rattle.std.specs.Prelude.{◌≡◌, ◌≤◌, ◌⊎◌, ℕ, List, Bool, true, false, Option, Some, None, cond, ◌&&◌, nat_lt, ◌∷◌, [], ◌++◌}
use Rattle.std.specs.List.{Contains}
use Rattle.std.specs.Ordering.{nat_cmp, ordering_then}
use Rattle.std.specs.Cmp.Lexicographic.{slice_cmp}
use Rattle.std.specs.declared.cmp.Ordering.{Ordering}
use Rattle.std.specs.BTreeMap.{BTreeMap, get}
use Rattle.std.specs.BTreeSet.{BTreeSet, contains}
use Rattle.itip_items.specs.declared.item.Item.{Item}
use Rattle.itip_items.specs.declared.key.Key.{Key}
use Rattle.itip_join.specs.KeyByKey.{value_at}
use Rattle.itip_join.specs.Optional.{alive_part}
use Rattle.itip_join.specs.declared.lift.Lift.{Lift}
use Rattle.itip_join.specs.declared.lift.Lift.TheVariants.{Nothing, Known}
use Rattle.itip_state.specs.Slots.{slot_cmp}
use Rattle.itip_state.specs.Held.{Best, UidState, can_die, is_killed, at}

-- keys, each under a sequence
abbrev pub DueSet : Type 0
DueSet = BTreeSet (ℕ × Key)

-- by sequence, then by key
abbrev pub due_cmp : ℕ × Key → ℕ × Key → Ordering
due_cmp = λ a b. ordering_then (nat_cmp a.0 b.0) (slot_cmp a.1 b.1)

abbrev pub has : DueSet → ℕ × Key → Bool
has due pair = contains due_cmp due pair

-- the key is there, under a sequence that is not above that of its item
pub record IsDue (due : DueSet) (key : Key) (best : Best) : Type 0 where
  pub sequence : ℕ
  pub not_above : sequence ≤ best.value.eff
  pub there : has due (sequence, key) ≡ true

-- each entry that can die is in the set in this way
abbrev pub AreDue : DueSet → List (Key × Best) → Type 0
AreDue due entries = (key : Key) (best : Best) → value_at slot_cmp entries key ≡ Some best → can_die key ≡ true → IsDue due key best

-- the same, if there is a set
abbrev pub AreDueIn : Option DueSet → List (Key × Best) → Type 0
AreDueIn None entries = Unit {0}
AreDueIn (Some due) entries = AreDue due entries

-- the same for each UID that has a set
abbrev pub AreTracked : BTreeMap (List ℕ) DueSet → List (List ℕ × UidState) → Type 0
AreTracked due held = (uid : List ℕ) (set : DueSet) (state : UidState) →
    get (slice_cmp nat_cmp) due uid ≡ Some set → at held uid ≡ Some state → AreDue set state.entries

-- the sequence of the series item, below which an item can be dead; 0 if there is none
abbrev pub sequence_of : Lift Best → ℕ
sequence_of Nothing = 0
sequence_of (Known series) = series.value.eff

-- what is at a key stays, or is dead and goes
abbrev pub IsLeft : Lift Best → Key → Option Best → Option Best → Type 0
IsLeft series key old new = (new ≡ old) ⊎ ((new ≡ None) × (alive_part (is_killed series key) old ≡ None))

-- nothing is dead
abbrev pub AreAlive : Lift Best → List (Key × Best) → Type 0
AreAlive series entries = (key : Key) (best : Best) → value_at slot_cmp entries key ≡ Some best → is_killed series key best ≡ false

-- The set of a UID after an item is heard, if there was one: it may be dropped; otherwise it keeps what it had, and has the item's key if
-- that is new and its item can die. A UID of which nothing was held has no set.
abbrev pub IsFollowed : Option UidState → Item → Option DueSet → Option DueSet → Type 0
IsFollowed held item was None = Unit {0}
IsFollowed None item was (Some set) = ⊥
IsFollowed (Some state) item None (Some set) = ⊥
IsFollowed (Some state) item (Some was) (Some set) = ((pair : ℕ × Key) → has was pair ≡ true → has set pair ≡ true) ×
    (value_at slot_cmp state.entries item.key ≡ None → can_die item.key ≡ true → has set (item.eff, item.key) ≡ true)

-- ---- the items that a series item of a sequence makes dead
abbrev pub is_under : ℕ → Key → Best → Bool
is_under sequence key best = can_die key && nat_lt best.value.eff sequence

abbrev pub item_under : ℕ → Key → Best → List Item
item_under sequence key best = cond (is_under sequence key best) (best.value ∷ []) []

abbrev pub items_under : ℕ → List (Key × Best) → List Item
items_under sequence [] = []
items_under sequence (e ∷ es) = item_under sequence e.0 e.1 ++ items_under sequence es

-- these were added to others: the items of all entries under the sequence, and no items but those of entries
pub record AddsUnder (sequence : ℕ) (entries : List (Key × Best)) (old new : List Item) : Type 0 where
  pub keeps : (item : Item) → Contains old item → Contains new item
  pub among : (item : Item) → Contains new item → Contains old item ⊎ ((key : Key) × (best : Best) ×
      (value_at slot_cmp entries key ≡ Some best) × (best.value ≡ item))
  pub all : (key : Key) (best : Best) → value_at slot_cmp entries key ≡ Some best → is_under sequence key best ≡ true →
      Contains new best.value

-- the same for a UID of which nothing may be held
abbrev pub AddsUnderAt : ℕ → Option UidState → List Item → List Item → Type 0
AddsUnderAt sequence None old new = new ≡ old
AddsUnderAt sequence (Some state) old new = AddsUnder sequence state.entries old new
