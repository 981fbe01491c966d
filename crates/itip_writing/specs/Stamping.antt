-- The DTSTAMP that is written (our own rule): the moment of writing, or one second after the latest of those that it has to be after,
-- if that is not before the moment of writing.
use Rattle.std.specs.Prelude.{◌≡◌, ◌≢◌, ◌⊎◌, ◌==◌, ℕ, List, Option, Some, None, if◌then◌else◌}
use Rattle.std.specs.List.{Contains}
use Rattle.std.specs.Ordering.{is_lt}
use Rattle.std.specs.declared.cmp.Ordering.TheVariants.{Less}
use Rattle.itip_moment.specs.Order.{stamp_cmp}
use Rattle.itip_moment.specs.declared.stamp.Stamp.{Stamp}
use Rattle.itip_items.specs.declared.item.Item.{Item}
use Rattle.itip_items.specs.declared.key.Key.{Key}
use Rattle.itip_state.specs.Kept.{IsKept}

-- later, and nothing is between
pub record IsNextSecond (stamp next : Stamp) : Type 0 where
  pub later : stamp_cmp stamp next ≡ Less
  pub least : (other : Stamp) → stamp_cmp stamp other ≡ Less → stamp_cmp other next ≢ Less

-- the DTSTAMP of a kept item with one of these keys and this effective sequence
pub record IsEqualRevision (heard : List Item) (keys : List Key) (sequence : ℕ) (stamp : Stamp) : Type 0 where
  pub item : Item
  pub kept : IsKept heard item
  pub about : Contains keys item.key
  pub same : item.eff ≡ sequence
  pub stamp_is : stamp ≡ item.stamp

-- the latest of the stamps for which this holds
pub record IsLatest (P : Stamp → Type 0) (latest : Stamp) : Type 0 where
  pub is_one : P latest
  pub none_later : (other : Stamp) → P other → stamp_cmp latest other ≢ Less

-- the moment of writing, which is later than each of these
pub record IsInTime (P : Stamp → Type 0) (at stamp : Stamp) : Type 0 where
  pub stamp_is : stamp ≡ at
  pub later : (other : Stamp) → P other → stamp_cmp other at ≡ Less

-- one second after the latest of these, which is not before the moment of writing
pub record IsDelayed (P : Stamp → Type 0) (at stamp : Stamp) : Type 0 where
  pub latest : Stamp
  pub is_latest : IsLatest P latest
  pub not_before : stamp_cmp latest at ≢ Less
  pub next : IsNextSecond latest stamp

-- the DTSTAMP that is written at a moment to be later than each stamp for which this holds
abbrev pub IsStampAfter : (Stamp → Type 0) → Stamp → Stamp → Type 0
IsStampAfter P at stamp = IsInTime P at stamp ⊎ IsDelayed P at stamp

-- the last possible second: one that has no next
abbrev pub IsLastSecond : Stamp → Type 0
IsLastSecond stamp = (next : Stamp) → ¬ IsNextSecond stamp next

-- no second is left: the latest of these is the last possible second, and not before the moment of writing
pub record IsTimeSpent (P : Stamp → Type 0) (at : Stamp) : Type 0 where
  pub latest : Stamp
  pub is_latest : IsLatest P latest
  pub not_before : stamp_cmp latest at ≢ Less
  pub last : IsLastSecond latest

-- ---- the same, given the latest

-- the latest of the stamps for which this holds, or `None` if there is none
abbrev pub IsLatestOf : (Stamp → Type 0) → Option Stamp → Type 0
IsLatestOf P None = (stamp : Stamp) → ¬ P stamp
IsLatestOf P (Some latest) = IsLatest P latest

-- the DTSTAMP that is written at a moment to be later than this latest one
abbrev pub IsStampBehind : Option Stamp → Stamp → Stamp → Type 0
IsStampBehind None at stamp = stamp ≡ at
IsStampBehind (Some latest) at stamp =
    ((stamp_cmp latest at ≡ Less) × (stamp ≡ at)) ⊎ ((stamp_cmp latest at ≢ Less) × IsNextSecond latest stamp)

-- no second is left after this latest one, which is not before the moment of writing
abbrev pub IsSpentBehind : Option Stamp → Stamp → Type 0
IsSpentBehind None at = ⊥
IsSpentBehind (Some latest) at = (stamp_cmp latest at ≢ Less) × IsLastSecond latest

-- the kept item of a key, or `None` if none is kept
abbrev pub IsKeptOf : List Item → Key → Option Item → Type 0
IsKeptOf heard key None = (item : Item) → IsKept heard item → item.key ≡ key → ⊥
IsKeptOf heard key (Some item) = IsKept heard item × (item.key ≡ key)

-- the DTSTAMP of an item if it has this effective sequence
abbrev pub equal_stamp : ℕ → Option Item → Option Stamp
equal_stamp sequence None = None
equal_stamp sequence (Some item) = if item.eff == sequence then Some item.stamp else None

-- the later of two stamps; the first may be absent
abbrev pub later_stamp : Option Stamp → Stamp → Stamp
later_stamp None other = other
later_stamp (Some stamp) other = if is_lt (stamp_cmp stamp other) then other else stamp
