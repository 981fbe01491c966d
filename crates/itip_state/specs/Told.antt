-- What adds nothing to a set (our own form): an item no later than one of its key in the set, and an item that is dead beside the set.
-- Everything else is news.
use Rattle.std.specs.Prelude.{◌≡◌, List, Some, ◌⊎◌, true, false}
use Rattle.std.specs.List.{Contains}
use Rattle.itip_items.specs.RevisionOrder.{IsLater}
use Rattle.itip_items.specs.declared.item.Item.{Item}
use Rattle.itip_join.specs.declared.lift.Lift.TheVariants.{Known}
use Rattle.itip_join.specs.KeyByKey.{value_at}
use Rattle.itip_state.specs.Slots.{slot_cmp}
use Rattle.itip_state.specs.Kept.{IsDead}
use Rattle.itip_state.specs.Held.{Best, UidState, is_series}

-- an item of the set has the key of this item, and is no earlier than it
pub record IsTold (set : List Item) (item : Item) : Type 0 where
  pub teller : Item
  pub there : Contains set teller
  pub same : teller.key ≡ item.key
  pub not_later : ¬ IsLater item teller

-- the set tells it, or it is dead beside the set
abbrev pub IsOutdone : List Item → Item → Type 0
IsOutdone set item = IsTold set item ⊎ IsDead set item

-- the items that the set does not outdo, in any order, perhaps more than once
pub record AreNews (set items news : List Item) : Type 0 where
  pub among : (item : Item) → Contains news item → Contains items item
  pub new : (item : Item) → Contains news item → ¬ IsOutdone set item
  pub rest : (item : Item) → Contains items item → Contains news item ⊎ IsOutdone set item

-- something is held at the key of the item, and it is no earlier than the item; `uid_state` is what is held of its UID
pub record HoldsNoEarlier (uid_state : UidState) (item : Item) : Type 0 where
  pub held : Best
  pub place : ((is_series item.key ≡ true) × (uid_state.series ≡ Known held)) ⊎
      ((is_series item.key ≡ false) × (value_at slot_cmp uid_state.entries item.key ≡ Some held))
  pub not_later : ¬ IsLater item held.value

-- the set outdoes all these items: hearing them changes nothing
abbrev pub AreOutdone : List Item → List Item → Type 0
AreOutdone set items = (item : Item) → Contains items item → IsOutdone set item
