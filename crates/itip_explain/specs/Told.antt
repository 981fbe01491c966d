-- What messages tell of a to-do, in the order told, and which of them is the first to tell an item (our own rule).
use Rattle.std.specs.Prelude.{◌≡◌, List, ◌∷◌, ◌++◌, map}
use Rattle.std.specs.List.{Contains}
use Rattle.itip_items.specs.declared.item.Item.{Item}
use Rattle.itip_items.specs.declared.key.Key.{Key}
use Rattle.itip_state.specs.Kept.{IsBest}
use Rattle.itip_explain.specs.declared.told.Place.{Place}
use Rattle.itip_explain.specs.declared.told.ToldItem.{ToldItem}

-- the set that is heard: the items told
abbrev pub heard_of : List ToldItem → List Item
heard_of told = map (λ (one : ToldItem). one.item) told

-- the place of the first told item that is this item
pub record IsFirstToTell (told : List ToldItem) (item : Item) (place : Place) : Type 0 where
  pub before : List ToldItem
  pub first : ToldItem
  pub after : List ToldItem
  pub cut : told ≡ before ++ first ∷ after
  pub tells : first.item ≡ item
  pub none_before : Contains (heard_of before) item → ⊥
  pub place_is : first.place ≡ place

-- the best item of a key, at the place where it is first told
pub record IsBestTold (told : List ToldItem) (key : Key) (one : ToldItem) : Type 0 where
  pub best : IsBest (heard_of told) key one.item
  pub first : IsFirstToTell told one.item one.place
