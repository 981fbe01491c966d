-- Best, dead and kept items of a finite set (our own rule). A set is given by a list of its items: order and repeats don't matter.
use Rattle.std.specs.Prelude.{◌≡◌, ◌≢◌, List, ◌++◌, ◌<◌, ◌↔◌, Option, Some, None, ℕ, MatchOption}
use Rattle.std.specs.List.{Contains, AllPairs}
use Rattle.std.specs.Ordering.{nat_cmp}
use Rattle.std.specs.Cmp.Lexicographic.{slice_cmp}
use Rattle.std.specs.declared.cmp.Ordering.TheVariants.{Less}
use Rattle.itip_items.specs.RevisionOrder.{IsLater}
use Rattle.itip_items.specs.KeyParts.{uid_of}
use Rattle.itip_items.specs.declared.item.Item.{Item}
use Rattle.itip_items.specs.declared.key.Key.{Key}
use Rattle.itip_items.specs.declared.key.Key.TheVariants.{Series, Instance, Range, Answer, Refresh}
use Rattle.itip_state.specs.Slots.{key_cmp}

-- the item of a key that no item of that key is later than
pub record IsBest (heard : List Item) (key : Key) (item : Item) : Type 0 where
  pub is_heard : Contains heard item
  pub about : item.key ≡ key
  pub none_later : (other : Item) → Contains heard other → other.key ≡ key → ¬ IsLater other item

-- the best item of a key, or nothing if no item of the key was heard
abbrev pub IsBestOf : List Item → Key → Option Item → Type 0
IsBestOf heard key found = MatchOption found ((item : Item) → Contains heard item → item.key ≡ key → ⊥) (IsBest heard key)

-- Items of these keys can die: instances, ranges, and answers to a series as a whole. An answer to an instance never does.
abbrev pub CanDie : Key → Type 0
CanDie (Series uid) = ⊥
CanDie (Instance uid id) = Unit {0}
CanDie (Range uid id) = Unit {0}
CanDie (Answer uid None attendee) = Unit {0}
CanDie (Answer uid (Some id) attendee) = ⊥
CanDie (Refresh uid id attendee) = ⊥

-- An instance item, a range item or an answer to the series as a whole is dead if its effective sequence is below that of the best series
-- item of its UID. Equal is not dead.
pub record IsDead (heard : List Item) (item : Item) : Type 0 where
  pub can_die : CanDie item.key
  pub series : Item
  pub best : IsBest heard (Series (uid_of item.key)) series
  pub below : item.eff < series.eff

-- the best items that are not dead
pub record IsKept (heard : List Item) (item : Item) : Type 0 where
  pub best : IsBest heard item.key item
  pub alive : ¬ IsDead heard item

-- these are exactly the kept items of what was heard
abbrev pub AreKept : List Item → List Item → Type 0
AreKept kept heard = (item : Item) → Contains kept item ↔ IsKept heard item

-- two sets have the same items
abbrev pub SameItems : List Item → List Item → Type 0
SameItems xs ys = (item : Item) → Contains xs item ↔ Contains ys item

-- the part of a set that is about one UID
abbrev pub ArePart : List ℕ → List Item → List Item → Type 0
ArePart uid part whole = (item : Item) → Contains part item ↔ (Contains whole item × (uid_of item.key ≡ uid))

-- the items are about one UID
abbrev pub AreOf : List ℕ → List Item → Type 0
AreOf uid items = (item : Item) → Contains items item → uid_of item.key ≡ uid

-- the items of a set that are about these UIDs
abbrev pub ArePartOf : List Item → List Item → List (List ℕ) → Type 0
ArePartOf part whole uids = (item : Item) → Contains part item ↔ (Contains whole item × Contains uids (uid_of item.key))

-- two sets keep the same items of a UID
abbrev pub KeepSame : List ℕ → List Item → List Item → Type 0
KeepSame uid x y = (item : Item) → uid_of item.key ≡ uid → IsKept x item ↔ IsKept y item

-- hearing a step after what came before moves a UID: its kept items differ
abbrev pub Moves : List Item → List Item → List ℕ → Type 0
Moves before step uid = ¬ KeepSame uid before (before ++ step)

-- texts sorted by bytes, each once
abbrev pub AscendTexts : List (List ℕ) → Type 0
AscendTexts = AllPairs (λ a b. slice_cmp nat_cmp a b ≡ Less)

-- the UIDs that a step moves, sorted by bytes, each once; it moves no other
pub record AreMoved (uids : List (List ℕ)) (before step : List Item) : Type 0 where
  pub ascend : AscendTexts uids
  pub each : (uid : List ℕ) → Contains uids uid → Moves before step uid
  pub others : (uid : List ℕ) → (¬ Contains uids uid) → KeepSame uid before (before ++ step)

-- the items of a set, sorted by canonical bytes, each once
pub record IsItemsOf (items set : List Item) : Type 0 where
  pub ascend : AllPairs (λ (a b : Item). slice_cmp nat_cmp a.bytes b.bytes ≡ Less) items
  pub same : SameItems items set

-- each item is in the list once
abbrev pub HasEachOnce : List Item → Type 0
HasEachOnce = AllPairs (λ (a b : Item). a ≢ b)

-- Items in the order of their keys: by UID, then the series item, instances and then ranges, each by recurrence id, answers and then
-- refresh requests, each by the day and the second of the instance, attendee and instance.
abbrev pub AscendKeys : List Item → Type 0
AscendKeys = AllPairs (λ (a b : Item). key_cmp a.key b.key ≡ Less)

-- the item is of a to-do as a whole
abbrev pub IsSeries : Item → Type 0
IsSeries item = item.key ≡ Series (uid_of item.key)

-- the series items of a set, sorted by the bytes of their UIDs, each once
pub record AreSeriesOf (series set : List Item) : Type 0 where
  pub ascend : AllPairs (λ (a b : Item). slice_cmp nat_cmp (uid_of a.key) (uid_of b.key) ≡ Less) series
  pub each : (item : Item) → Contains series item → Contains set item × IsSeries item
  pub all : (item : Item) → Contains set item → IsSeries item → Contains series item

-- the UIDs that a set is about, sorted by bytes, each once
pub record AreUidsOf (uids : List (List ℕ)) (set : List Item) : Type 0 where
  pub ascend : AscendTexts uids
  pub each : (uid : List ℕ) → Contains uids uid → (item : Item) × Contains set item × (uid_of item.key ≡ uid)
  pub all : (item : Item) → Contains set item → Contains uids (uid_of item.key)
