-- What a state holds of each UID (our own rule): the best series item, and the best item of each other key, unless it is dead.
use Rattle.std.specs.Prelude.{◌≡◌, ◌<◌, ◌⊎◌, ℕ, List, [], ◌∷◌, ◌++◌, Option, Some, None, Bool, true, false, cond, ◌&&◌, nat_lt, length}
use Rattle.std.specs.List.{AllByRecursion}
use Rattle.std.specs.List.Sorted.{IsStrictlySortedBy}
use Rattle.std.specs.Map.{keys_of}
use Rattle.std.specs.Ordering.{nat_cmp, is_eq}
use Rattle.std.specs.Cmp.Lexicographic.{slice_cmp}
use Rattle.itip_items.specs.KeyParts.{uid_of}
use Rattle.itip_items.specs.declared.item.Item.{Item}
use Rattle.itip_items.specs.declared.key.Key.{Key}
use Rattle.itip_items.specs.declared.key.Key.TheVariants.{Series, Instance, Range, Answer, Refresh}
use Rattle.itip_join.specs.declared.greatest.Greatest.{Greatest}
use Rattle.itip_join.specs.declared.lift.Lift.{Lift}
use Rattle.itip_join.specs.declared.lift.Lift.TheVariants.{Nothing, Known}
use Rattle.itip_join.specs.KeyByKey.{value_at, all_alive}
use Rattle.itip_state.specs.Slots.{slot_cmp}
use Rattle.itip_state.specs.Kept.{AreKept}

abbrev pub Best : Type 0
Best = Greatest Item

abbrev pub best : Item → Best
best item = record { value = item }

abbrev pub is_series : Key → Bool
is_series (Series uid) = true
is_series (Instance uid id) = false
is_series (Range uid id) = false
is_series (Answer uid id attendee) = false
is_series (Refresh uid id attendee) = false

-- whether items of this key can die
abbrev pub can_die : Key → Bool
can_die (Series uid) = false
can_die (Instance uid id) = true
can_die (Range uid id) = true
can_die (Answer uid None attendee) = true
can_die (Answer uid (Some id) attendee) = false
can_die (Refresh uid id attendee) = false

-- an item whose key can die is dead below a series item of its UID
abbrev pub is_below : Item → Item → Bool
is_below series item = can_die item.key && (is_eq (slice_cmp nat_cmp (uid_of series.key) (uid_of item.key)) && nat_lt item.eff series.eff)

-- whether the series item, if there is one, makes an item of the key dead
abbrev pub kills : Lift Best → Key → Item → Bool
kills Nothing key item = false
kills (Known series) key item = can_die key && nat_lt item.eff series.value.eff

-- the same for what is held at a key
abbrev pub is_killed : Lift Best → Key → Best → Bool
is_killed series key held = kills series key held.value

-- what is held of one UID
pub record UidState : Type 0 where
  pub series : Lift Best
  -- the items of the other keys
  pub entries : List (Key × Best)

-- what is held of one UID; a map by UID is the list of what is held of each
abbrev pub at : List (List ℕ × UidState) → List ℕ → Option UidState
at es uid = value_at (slice_cmp nat_cmp) es uid

-- the UIDs ascend
abbrev pub AreOrdered : List (List ℕ × UidState) → Type 0
AreOrdered es = IsStrictlySortedBy (slice_cmp nat_cmp) (keys_of es)

abbrev pub series_items : Lift Best → List Item
series_items Nothing = []
series_items (Known series) = series.value ∷ []

abbrev pub entry_items : List (Key × Best) → List Item
entry_items [] = []
entry_items (e ∷ es) = e.1.value ∷ entry_items es

abbrev pub found_items : Option Best → List Item
found_items None = []
found_items (Some found) = found.value ∷ []

abbrev pub uid_state_items : UidState → List Item
uid_state_items uid_state = series_items uid_state.series ++ entry_items uid_state.entries

-- all items held
abbrev pub items_of : List (List ℕ × UidState) → List Item
items_of [] = []
items_of (e ∷ es) = uid_state_items e.1 ++ items_of es

-- the series items held
abbrev pub series_list : List (List ℕ × UidState) → List Item
series_list [] = []
series_list (e ∷ es) = series_items e.1.series ++ series_list es

-- what is held at a key
abbrev pub items_at_key : UidState → Key → List Item
items_at_key uid_state key = cond (is_series key) (series_items uid_state.series) (found_items (value_at slot_cmp uid_state.entries key))

-- where items of a key are held among those of its UID: at the key; series items have no such place
abbrev pub IsPlaceOf : Option Key → Key → Type 0
IsPlaceOf None key = is_series key ≡ true
IsPlaceOf (Some place) key = (place ≡ key) × (is_series key ≡ false)

-- the series item, if there is one, is of the UID
abbrev pub IsSeriesAt : List ℕ → Lift Best → Type 0
IsSeriesAt uid Nothing = Unit {0}
IsSeriesAt uid (Known series) = series.value.key ≡ Series uid

-- an item of the UID that is not a series item is held at its key
pub record IsEntryAt (uid : List ℕ) (key : Key) (held : Best) : Type 0 where
  pub in_place : held.value.key ≡ key
  pub about : uid_of key ≡ uid
  pub other : is_series key ≡ false

-- each item is held under its UID and at its key
pub record IsPlaced (uid : List ℕ) (uid_state : UidState) : Type 0 where
  pub series : IsSeriesAt uid uid_state.series
  pub entries : AllByRecursion (λ e. IsEntryAt uid e.0 e.1) uid_state.entries

-- the keys of the other items ascend, and the series item makes none of these dead
pub record IsReduced (uid_state : UidState) : Type 0 where
  pub sorted : IsStrictlySortedBy slot_cmp (keys_of uid_state.entries)
  pub alive : all_alive (is_killed uid_state.series) uid_state.entries ≡ true

-- what is held of a UID is placed and reduced
pub record IsSound (uid : List ℕ) (uid_state : UidState) : Type 0 where
  pub placed : IsPlaced uid uid_state
  pub whole : IsReduced uid_state

-- the same for all UIDs, each of which has an item
abbrev pub AreSound : List (List ℕ × UidState) → Type 0
AreSound es = AllByRecursion (λ e. IsSound e.0 e.1 × (0 < length (uid_state_items e.1))) es

-- what a state holds
pub record AreHeld (es : List (List ℕ × UidState)) : Type 0 where
  pub ordered : AreOrdered es
  pub sound : AreSound es

-- what is held if one item alone was heard
abbrev pub alone : Item → UidState
alone item = cond (is_series item.key) (record { series = Known (best item); entries = [] })
    (record { series = Nothing; entries = (item.key, best item) ∷ [] })

-- what is held if one series item alone was heard
abbrev pub series_alone : Best → UidState
series_alone series = record { series = Known series; entries = [] }

-- an item is held, as the series item or at its key
abbrev pub IsHeldAs : UidState → Item → Type 0
IsHeldAs uid_state item = ((uid_state.series ≡ Known (best item)) × (is_series item.key ≡ true)) ⊎
    ((value_at slot_cmp uid_state.entries item.key ≡ Some (best item)) × (is_series item.key ≡ false))

-- what is held is what is kept of what was heard
pub record HoldKept (heard : List Item) (es : List (List ℕ × UidState)) : Type 0 where
  pub held : AreHeld es
  pub kept : AreKept (items_of es) heard
