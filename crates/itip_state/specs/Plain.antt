-- What is kept, as a test of each item (our own form).
use Rattle.std.specs.Prelude.{Bool, not, ◌&&◌, List}
use Rattle.std.specs.List.{list_any}
use Rattle.std.specs.Ordering.{is_eq, is_gt}
use Rattle.itip_items.specs.RevisionOrder.{revision_cmp}
use Rattle.itip_items.specs.declared.item.Item.{Item}
use Rattle.itip_state.specs.Slots.{slot_cmp}
use Rattle.itip_state.specs.Held.{is_series, is_below}

-- the first is a later revision of the second's key
abbrev pub outdates : Item → Item → Bool
outdates later item = is_eq (slot_cmp later.key item.key) && is_gt (revision_cmp later item)

-- the first is a series item below which the second is dead
abbrev pub kills : Item → Item → Bool
kills series item = is_series series.key && is_below series item

-- no item heard outdates the item, and none kills it
abbrev pub keeps : List Item → Item → Bool
keeps heard item = not (list_any (λ other. outdates other item) heard) && not (list_any (λ series. kills series item) heard)
