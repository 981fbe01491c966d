-- An index of kept items (our own form).
use Rattle.std.specs.Prelude.{◌≡◌, ◌↔◌, ◌⊎◌, ◌||◌, Bool, true, false, List, [], IsTrue}
use Rattle.std.specs.List.{Contains, list_any}
use Rattle.std.specs.BTreeSet.{contains}
use Rattle.std.proofs.Common.{inl, inr}
use Rattle.itip_items.specs.declared.item.Item.{Item}
use Rattle.itip_view.specs.RowDays.{is_of_rows}
use Rattle.itip_desk.specs.Entries.{IndexEntry, day_cmp, name_cmp, same_entry, entries_of, IsNoted}
use Rattle.itip_desk.specs.declared.index.Index.{Index}

-- whether an index has an entry
abbrev pub has : Index → IndexEntry → Bool
has index (inl e) = contains day_cmp index.days e
has index (inr e) = contains name_cmp index.names e

-- whether a list has an entry
abbrev pub is_in : List IndexEntry → IndexEntry → Bool
is_in entries entry = list_any (same_entry entry) entries

-- an index has no entry
pub record IsEmptyIndex (index : Index) : Type 0 where
  pub days : index.days.keys ≡ []
  pub names : index.names.keys ≡ []

-- the entries of an index are those of these items
abbrev pub IsIndexOf : List Item → Index → Type 0
IsIndexOf kept index = (entry : IndexEntry) → IsTrue (has index entry) ↔ IsNoted kept entry

-- those of the news that are of a to-do as a whole, of an instance or of a range, live or cancelled
abbrev pub AreOfRows : List Item → List Item → Type 0
AreOfRows found news = (item : Item) → Contains found item ↔ (Contains news item × (is_of_rows item.key ≡ true))

-- an index keeps what it had, and gains only entries that are among these
abbrev pub Widens : (IndexEntry → Bool) → Index → Index → Type 0
Widens more old new = (entry : IndexEntry) → (has old entry ≡ true → has new entry ≡ true) ×
    (has new entry ≡ true → (has old entry || more entry) ≡ true)

-- an index has what it had, and apart from that only entries of these items
pub record HasGrown (items : List Item) (old new : Index) : Type 0 where
  pub keeps : (entry : IndexEntry) → has old entry ≡ true → has new entry ≡ true
  pub among : (entry : IndexEntry) → has new entry ≡ true → (has old entry ≡ true) ⊎ IsNoted items entry

-- Those of these items that are not in the state have lost their entries; no entry of the state is gone, and none is new.
pub record HasSettled (state items : List Item) (old new : Index) : Type 0 where
  pub none_new : (entry : IndexEntry) → has new entry ≡ true → has old entry ≡ true
  pub stays : (entry : IndexEntry) → has old entry ≡ true → ((item : Item) → Contains (entries_of item) entry → Contains state item) →
      has new entry ≡ true
  pub gone : (item : Item) → Contains items item → Contains state item ⊎
      ((entry : IndexEntry) → Contains (entries_of item) entry → has new entry ≡ false)
