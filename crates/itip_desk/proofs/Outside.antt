-- A UID outside what the index finds has no row.
use Rattle.std.proofs.Common.{ℕ, List}
use Rattle.std.specs.List.{Contains}
use Rattle.itip_todo.specs.Table.{attendee_key}
use Rattle.itip_items.specs.declared.item.Item.{Item}
use Rattle.itip_state.specs.Kept.{AreKept}
use Rattle.itip_state.proofs.Keeping.{kept_again}
use Rattle.itip_view.specs.RowDays.{HasRowsIn, NamesIn}
use Rattle.itip_view.specs.Rows.{IsRow}
use Rattle.itip_view.specs.Showing.{Shows}
use Rattle.itip_view.specs.declared.row.Row.{Row}
use Rattle.itip_view.specs.declared.window.Window.{Window}
use Rattle.itip_view.proofs.Alike.{alike_back}
use Rattle.itip_view.proofs.Needing.{row_needs_days, row_needs_name}
use Rattle.itip_view.proofs.OfKept.{row_of_same}

module _ (kept heard : List Item) (are : AreKept kept heard) (window : Window) (row : Row) (is : IsRow heard window row) where
  row_kept : IsRow kept window row
  row_kept = row_of_same heard kept (alike_back kept heard (kept_again kept heard are)) window row is

  pub row_in : (uids : List (List ℕ)) → ((uid : List ℕ) → HasRowsIn kept window uid → Contains uids uid) → Contains uids row.uid
  row_in uids found = found row.uid (row_needs_days kept window row row_kept)

  pub row_naming : (uids : List (List ℕ)) (address : List ℕ) →
      ((uid : List ℕ) → NamesIn kept (attendee_key address) uid → Contains uids uid) → Shows address row → Contains uids row.uid
  row_naming uids address found shows = found row.uid (row_needs_name kept address window row row_kept shows)
