-- What a pass takes out of a desk for the rows that it makes after the read: a part that has the same rows (our own form).
use Rattle.std.specs.Prelude.{◌≡◌, ◌↔◌, ℕ, List}
use Rattle.std.specs.List.{Contains}
use Rattle.itip_items.specs.KeyParts.{uid_of}
use Rattle.itip_items.specs.declared.item.Item.{Item}
use Rattle.itip_state.specs.Kept.{IsKept}
use Rattle.itip_view.specs.Rows.{IsRow}
use Rattle.itip_view.specs.Showing.{Shows}
use Rattle.itip_view.specs.declared.row.Row.{Row}
use Rattle.itip_view.specs.declared.window.Window.{Window}

-- the rows in a window
abbrev pub HasRowsOf : List Item → List Item → Window → Type 0
HasRowsOf part heard window = (row : Row) → IsRow part window row ↔ IsRow heard window row

-- the rows that show an attendee, in every window
abbrev pub HasRowsFor : List ℕ → List Item → List Item → Type 0
HasRowsFor address part heard = (window : Window) (row : Row) → Shows address row → IsRow part window row ↔ IsRow heard window row

-- These are the kept items of a UID.
abbrev pub AreKeptOf : List ℕ → List Item → List Item → Type 0
AreKeptOf uid items heard = (item : Item) → Contains items item ↔ (IsKept heard item × (uid_of item.key ≡ uid))
