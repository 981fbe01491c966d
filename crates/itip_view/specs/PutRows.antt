-- What is written of the rows that are asked for, and how many there are (our own format).
use Rattle.std.specs.Prelude.{◌≡◌, ℕ, List, ◌++◌, length, Bool, Option}
use Rattle.std.specs.Int.{from_bool}
use Rattle.std.specs.List.{filter}
use Rattle.std.specs.Option.{option_to_list}
use Rattle.itip_items.specs.declared.item.Item.{Item}
use Rattle.itip_state.specs.OfUid.{UidPart}
use Rattle.itip_view.specs.ListText.{list_text}
use Rattle.itip_view.specs.RowsOfUid.{AreRowsOf}
use Rattle.itip_view.specs.UnmadeRows.{IsMade}
use Rattle.itip_view.specs.Showing.{AreRowsWhere}
use Rattle.itip_view.specs.Wanted.{wants}
use Rattle.itip_view.specs.declared.row.Row.{Row}
use Rattle.itip_view.specs.declared.unmade_row.UnmadeRow.{UnmadeRow}
use Rattle.itip_view.specs.declared.wanted.Wanted.{Wanted}
use Rattle.itip_view.specs.declared.window.Window.{Window}

-- the text of a row, if there is one and it is asked for, was appended to a text; and whether it was
pub record IsPut (wanted : Wanted) (row : Option Row) (old new : List ℕ) (is_put : Bool) : Type 0 where
  pub number_is : length (filter (wants wanted) (option_to_list row)) ≡ from_bool is_put
  pub text_is : new ≡ old ++ list_text (filter (wants wanted) (option_to_list row))

-- the same for the row of a place
pub record IsPlacePut (wanted : Wanted) (part : UidPart) (place : Option UnmadeRow) (old new : List ℕ) (is_put : Bool) : Type 0 where
  pub row : Option Row
  pub made : IsMade part place row
  pub put : IsPut wanted row old new is_put

-- the same for all rows of a UID, and the number of those that were appended
pub record ArePut (wanted : Wanted) (part : UidPart) (window : Window) (old new : List ℕ) (number : ℕ) : Type 0 where
  pub rows : List Row
  pub are_rows : AreRowsOf part.items window part.uid rows
  pub number_is : length (filter (wants wanted) rows) ≡ number
  pub text_is : new ≡ old ++ list_text (filter (wants wanted) rows)

-- the same for the rows of the view for which P holds
pub record PutsRows (P : Row → Type 0) (heard : List Item) (window : Window) (old new : List ℕ) (number : ℕ) : Type 0 where
  pub rows : List Row
  pub are_rows : AreRowsWhere P heard window rows
  pub number_is : length rows ≡ number
  pub text_is : new ≡ old ++ list_text rows
