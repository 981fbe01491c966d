-- The rows of a view that meet a further condition: that they are of some UIDs, or show an attendee (our own rules).
use Rattle.std.specs.Prelude.{◌≡◌, ◌≤◌, ◌<◌, length, ℕ, List, Option, Some, None}
use Rattle.std.specs.List.{Contains}
use Rattle.itip_todo.specs.Table.{attendee_key}
use Rattle.itip_items.specs.declared.item.Item.{Item}
use Rattle.itip_view.specs.ListText.{list_text}
use Rattle.itip_view.specs.Rows.{IsRow, AscendRows, row_limit}
use Rattle.itip_view.specs.declared.row.Row.{Row}
use Rattle.itip_view.specs.declared.row.ShownAttendee.{ShownAttendee}
use Rattle.itip_view.specs.declared.window.Window.{Window}

-- a row shows the attendee of an address: an address that it shows has the same key
pub record Shows (address : List ℕ) (row : Row) : Type 0 where
  pub attendee : ShownAttendee
  pub there : Contains row.attendees attendee
  pub same : attendee_key attendee.address ≡ attendee_key address

-- a row that shows the attendee who is named; every row if none is
abbrev pub ShowsNamed : Option (List ℕ) → Row → Type 0
ShowsNamed None row = Unit {0}
ShowsNamed (Some address) row = Shows address row

-- a row of a UID for which P holds
pub record IsOf (uid : List ℕ) (P : Row → Type 0) (row : Row) : Type 0 where
  pub uid_is : row.uid ≡ uid
  pub holds : P row

-- a row of one of these UIDs for which P holds
pub record IsAmong (uids : List (List ℕ)) (P : Row → Type 0) (row : Row) : Type 0 where
  pub uid_is : Contains uids row.uid
  pub holds : P row

-- the rows of the view for which P holds, in their order, each once
pub record AreRowsWhere (P : Row → Type 0) (heard : List Item) (window : Window) (rows : List Row) : Type 0 where
  pub ascend : AscendRows rows
  pub each : (row : Row) → Contains rows row → IsRow heard window row
  pub holds : (row : Row) → Contains rows row → P row
  pub all : (row : Row) → IsRow heard window row → P row → Contains rows row

-- P holds for more rows in the window than a list may have
pub record AreTooManyWhere (P : Row → Type 0) (heard : List Item) (window : Window) : Type 0 where
  pub some : List Row
  pub ascend : AscendRows some
  pub each : (row : Row) → Contains some row → IsRow heard window row
  pub holds : (row : Row) → Contains some row → P row
  pub many : row_limit < length some

-- the text of the rows that show the attendee of an address, if at most 100,000 do
pub record IsListTextFor (address : List ℕ) (heard : List Item) (window : Window) (text : List ℕ) : Type 0 where
  pub rows : List Row
  pub are_rows : AreRowsWhere (Shows address) heard window rows
  pub few : length rows ≤ row_limit
  pub text_is : text ≡ list_text rows

-- the text of the rows of these UIDs for which P holds, if there are not too many
pub record IsTextAmong (P : Row → Type 0) (heard : List Item) (window : Window) (uids : List (List ℕ)) (text : List ℕ) : Type 0 where
  pub rows : List Row
  pub are_rows : AreRowsWhere (IsAmong uids P) heard window rows
  pub few : length rows ≤ row_limit
  pub text_is : text ≡ list_text rows
