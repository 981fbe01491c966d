-- How changes of a map by UID are undone (our own form).
use Rattle.std.specs.Prelude.{◌≡◌, false, List, [], ◌∷◌, ℕ, Option, Some, None}
use Rattle.std.specs.Ordering.{nat_cmp, is_eq}
use Rattle.std.specs.Cmp.Lexicographic.{slice_cmp}
use Rattle.itip_items.specs.KeyParts.{uid_of}
use Rattle.itip_items.specs.declared.item.Item.{Item}
use Rattle.itip_state.specs.Changes.{IsBackAt}
use Rattle.itip_state.specs.Held.{UidState, is_series, at, AreOrdered}
use Rattle.itip_state.specs.declared.hear.Before.{Before}
use Rattle.itip_state.specs.declared.hear.Before.TheVariants.{Absent, Entry}
use Rattle.itip_state.specs.declared.hear.Hearing.{Hearing}

-- The note is right, if `old` is what is held of the UID before the item is heard. If that is something, the item is not a series item.
abbrev pub IsNoted : Before → Item → Option UidState → Type 0
IsNoted Absent item old = old ≡ None
IsNoted (Entry place held) item old = (w : UidState) × (old ≡ Some w) × IsBackAt item.key held w w × (is_series item.key ≡ false) ×
    (place.now ≡ item.key)

-- what was noted leads from what is held of a UID now back to what was held before
abbrev pub LeadsBack : Before → Item → Option UidState → Option UidState → Type 0
LeadsBack Absent item now old = old ≡ None
LeadsBack (Entry place held) item now old = (v : UidState) × (w : UidState) × (now ≡ Some v) × (old ≡ Some w) ×
    IsBackAt item.key held v w × (place.now ≡ item.key)

-- undoing a change leads from `now` to `before` at the UID of its item; every other UID has the same in both
pub record IsUndone (change : Hearing) (now before : List (List ℕ × UidState)) : Type 0 where
  pub there : LeadsBack change.before change.item.now (at now (uid_of change.item.now.key)) (at before (uid_of change.item.now.key))
  pub others : (q : List ℕ) → is_eq (slice_cmp nat_cmp (uid_of change.item.now.key) q) ≡ false → at now q ≡ at before q
  pub ordered : AreOrdered before

-- undoing all changes, the last first, leads from `now` to `start`
abbrev pub AreUndone : List Hearing → List (List ℕ × UidState) → List (List ℕ × UidState) → Type 0
AreUndone [] now start = now ≡ start
AreUndone (c ∷ cs) now start = (mid : List (List ℕ × UidState)) × AreUndone cs now mid × IsUndone c mid start
