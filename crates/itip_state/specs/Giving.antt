-- Which items of a set can give way to news (our own form): those with the key of one of these, and those that are dead below one of
-- these.
use Rattle.std.specs.Prelude.{◌≡◌, ◌<◌, List}
use Rattle.std.specs.List.{Contains}
use Rattle.itip_items.specs.KeyParts.{uid_of}
use Rattle.itip_items.specs.declared.item.Item.{Item}
use Rattle.itip_items.specs.declared.key.Key.TheVariants.{Series}
use Rattle.itip_state.specs.Kept.{CanDie}

-- these are all of them, in any order, perhaps more than once, and perhaps with others of the set
pub record AreGivingWay (set news giving : List Item) : Type 0 where
  pub among : (item : Item) → Contains giving item → Contains set item
  pub at_key : (item other : Item) → Contains set item → Contains news other → other.key ≡ item.key → Contains giving item
  pub below : (item series : Item) → Contains set item → Contains news series → series.key ≡ Series (uid_of item.key) →
      CanDie item.key → item.eff < series.eff → Contains giving item
