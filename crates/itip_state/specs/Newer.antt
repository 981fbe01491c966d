-- Series items of UIDs of which something is held: they are heard last, once nothing can fail any more (our own form).
use Rattle.std.specs.Prelude.{◌≡◌, ◌⊎◌, true, false, List, [], ◌∷◌, ◌++◌, ℕ, Option, Some, None, is_some}
use Rattle.std.specs.List.{AllByRecursion}
use Rattle.itip_items.specs.KeyParts.{uid_of}
use Rattle.itip_items.specs.declared.item.Item.{Item}
use Rattle.itip_state.specs.Held.{Best, UidState, best, is_series, at, HoldKept}
use Rattle.itip_state.specs.Kept.{SameItems}
use Rattle.itip_state.specs.declared.hear.Newer.{Newer}

-- a series item as the best of its key, if something of its UID is held; nothing for every other item
abbrev pub IsNewerOf : Option UidState → Item → Option Best → Type 0
IsNewerOf there item None = (is_series item.key ≡ false) ⊎ (there ≡ None)
IsNewerOf there item (Some newer) = (newer ≡ best item) × (is_series item.key ≡ true) × (is_some there ≡ true)

-- a series item, of whose UID something is held
pub record IsAwaited (held : List (List ℕ × UidState)) (newer : Newer) : Type 0 where
  pub about : newer.uid.now ≡ uid_of newer.best.value.key
  pub series : is_series newer.best.value.key ≡ true
  pub there : is_some (at held newer.uid.now) ≡ true

abbrev pub AreAwaited : List (List ℕ × UidState) → List Newer → Type 0
AreAwaited held newer = AllByRecursion (IsAwaited held) newer

-- the items themselves
abbrev pub newer_items : List Newer → List Item
newer_items [] = []
newer_items (n ∷ ns) = n.best.value ∷ newer_items ns

-- an item was heard in place, and no UID is gone
pub record IsHeard (old new : List (List ℕ × UidState)) (item : Item) : Type 0 where
  pub kept : (heard : List Item) → HoldKept heard old → HoldKept (heard ++ item ∷ []) new
  pub there : (uid : List ℕ) → is_some (at old uid) ≡ true → is_some (at new uid) ≡ true

-- an item waits to be heard last
pub record IsWaiting (old new : List (List ℕ × UidState)) (item : Item) (was now : List Newer) : Type 0 where
  pub newer : Newer
  pub same : new ≡ old
  pub put : now ≡ was ++ newer ∷ []
  pub awaited : IsAwaited old newer
  pub item_is : newer.best.value ≡ item

-- one or the other
abbrev pub IsTakenIn : List (List ℕ × UidState) → List (List ℕ × UidState) → Item → List Newer → List Newer → Type 0
IsTakenIn old new item was now = ((now ≡ was) × IsHeard old new item) ⊎ IsWaiting old new item was now

-- the same for these items, one after another
pub record AreTakenIn (start held : List (List ℕ × UidState)) (items : List Item) (newer : List Newer) : Type 0 where
  pub done : List Item
  pub hold : (heard : List Item) → HoldKept heard start → HoldKept (heard ++ done) held
  pub same : SameItems (done ++ newer_items newer) items
  pub awaited : AreAwaited held newer
