-- What is found in a set of entries (our own form).
use Rattle.std.specs.Prelude.{◌≡◌, ℕ, List}
use Rattle.std.specs.List.{Contains}
use Rattle.itip_todo.specs.Table.{attendee_key}
use Rattle.itip_todo.specs.Properties.{Property}
use Rattle.itip_items.specs.KeyParts.{uid_of}
use Rattle.itip_items.specs.declared.item.Item.{Item}

-- an ATTENDEE line of the item names the attendee with this address
pub record NamesLine (address : List ℕ) (item : Item) : Type 0 where
  pub line : Property
  pub there : Contains item.todo.attendees line
  pub named : attendee_key line.value ≡ attendee_key address

-- The UIDs that were there are still there, and so are those of the items of these entries for which P holds; others may be too.
pub record AddsFound {E : Type 0} (item_of : E → Item) (P : Item → Type 0) (entries : List E) (old new : List (List ℕ)) : Type 0 where
  pub keeps : (uid : List ℕ) → Contains old uid → Contains new uid
  pub adds : (entry : E) → Contains entries entry → P (item_of entry) → Contains new (uid_of (item_of entry).key)
