-- A part by the UIDs that are looked at for rows has the same rows.
use Rattle.std.proofs.Common.{ℕ, List, ◌↔◌}
use Rattle.std.specs.List.{Contains}
use Rattle.itip_todo.specs.Table.{attendee_key}
use Rattle.itip_items.specs.declared.item.Item.{Item}
use Rattle.itip_state.specs.Kept.{ArePartOf}
use Rattle.itip_view.specs.RowDays.{HasRowsIn, NamesIn}
use Rattle.itip_view.specs.Rows.{IsRow}
use Rattle.itip_view.specs.Showing.{Shows}
use Rattle.itip_view.specs.declared.row.Row.{Row}
use Rattle.itip_view.specs.declared.window.Window.{Window}
use Rattle.itip_view.proofs.Needing.{row_needs_days, row_needs_name}
use Rattle.itip_view.proofs.OfPart.{row_of_parts, uid_of_parts}

module _ (part kept : List Item) (uids : List (List ℕ)) (are : ArePartOf part kept uids) (window : Window) where
  -- a row of either set is of one of the UIDs
  same_rows : (row : Row) → (IsRow kept window row → Contains uids row.uid) → IsRow part window row ↔ IsRow kept window row
  same_rows row found = (
    λ is. (row_of_parts part kept uids are window row (uid_of_parts part kept uids are window row is)).0 is,
    λ is. (row_of_parts part kept uids are window row (found is)).1 is,
  )

  pub rows_in : ((uid : List ℕ) → HasRowsIn kept window uid → Contains uids uid) → (row : Row) → IsRow part window row ↔
      IsRow kept window row
  rows_in found row = same_rows row (λ is. found row.uid (row_needs_days kept window row is))

  pub rows_showing : (address : List ℕ) → ((uid : List ℕ) → NamesIn kept (attendee_key address) uid → Contains uids uid) → (row : Row) →
      Shows address row →
      IsRow part window row ↔ IsRow kept window row
  rows_showing address found row shows = same_rows row (λ is. found row.uid (row_needs_name kept address window row is shows))
