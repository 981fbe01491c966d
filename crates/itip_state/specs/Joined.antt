-- What is held once two states of a UID are joined, and when one tells no more than another (our own form).
use Rattle.std.specs.Prelude.{◌≡◌, ◌⊎◌, List, ℕ, Option, Some, None}
use Rattle.std.specs.Ordering.{nat_cmp}
use Rattle.std.specs.Cmp.Lexicographic.{slice_cmp}
use Rattle.itip_items.specs.declared.key.Key.{Key}
use Rattle.itip_join.specs.KeyByKey.{value_at, IsMapBelow, IsMapBelowUnder}
use Rattle.itip_join.specs.Lifted.{IsLiftedBelow}
use Rattle.itip_state.specs.Slots.{slot_cmp}
use Rattle.itip_state.specs.Held.{Best, UidState, is_killed, IsReduced}
use Rattle.itip_state.specs.DyingLaws.{IsNoLater}

-- the series item is no later, and each other item is no later than the one at its key, or is dead below the other's series item
abbrev pub IsUidStateBelow : UidState → UidState → Type 0
IsUidStateBelow a b = IsLiftedBelow IsNoLater a.series b.series ×
    IsMapBelowUnder (is_killed b.series) slot_cmp IsNoLater a.entries b.entries

-- the same for each UID
abbrev pub AreBelow : List (List ℕ × UidState) → List (List ℕ × UidState) → Type 0
AreBelow es fs = IsMapBelow (slice_cmp nat_cmp) IsUidStateBelow es fs

-- the third holds nothing but what one of the first two holds
pub record HoldsOfTwo (a b c : UidState) : Type 0 where
  pub series : (c.series ≡ a.series) ⊎ (c.series ≡ b.series)
  pub entries : (q : Key) (v : Best) → value_at slot_cmp c.entries q ≡ Some v → (value_at slot_cmp a.entries q ≡ Some v) ⊎
      (value_at slot_cmp b.entries q ≡ Some v)

-- the third is above both, holds nothing but what one of them holds, and is reduced
pub record IsJoined (a b c : UidState) : Type 0 where
  pub above_first : IsUidStateBelow a c
  pub above_second : IsUidStateBelow b c
  pub of_two : HoldsOfTwo a b c
  pub whole : IsReduced c

-- the same for a UID of which nothing may be held
abbrev pub IsJoinedAt : Option UidState → Option UidState → Option UidState → Type 0
IsJoinedAt None b c = c ≡ b
IsJoinedAt (Some a) None c = c ≡ Some a
IsJoinedAt (Some a) (Some b) c = (joined : UidState) × (c ≡ Some joined) × IsJoined a b joined
