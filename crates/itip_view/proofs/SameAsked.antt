-- Rows that are asked for by the same condition in other words.
use Rattle.std.proofs.Common.{◌↔◌, ◌<◌, ℕ, List, length}
use Rattle.std.specs.List.{Contains}
use Rattle.itip_items.specs.declared.item.Item.{Item}
use Rattle.itip_view.specs.Rows.{IsRow, AreRows, AreTooMany, row_limit}
use Rattle.itip_view.specs.Showing.{AreRowsWhere, AreTooManyWhere, IsOf, IsAmong}
use Rattle.itip_view.specs.declared.row.Row.{Row}
use Rattle.itip_view.specs.declared.window.Window.{Window}

-- two sets that have the same rows for which this holds
module _ (P Q : Row → Type 0) (x y : List Item) (window : Window)
    (same : (row : Row) → (IsRow x window row × P row) ↔ (IsRow y window row × Q row)) where
  pub rows_same : (rows : List Row) → AreRowsWhere P x window rows → AreRowsWhere Q y window rows
  rows_same rows are = record {
    ascend = are.ascend;
    each = λ row h. ((same row).0 (are.each row h, are.holds row h)).0;
    holds = λ row h. ((same row).0 (are.each row h, are.holds row h)).1;
    all = λ row is holds. let r = (same row).1 (is, holds) in are.all row r.0 r.1;
  }

  pub many_same : AreTooManyWhere P x window → AreTooManyWhere Q y window
  many_same over = record {
    some = over.some;
    ascend = over.ascend;
    each = λ row h. ((same row).0 (over.each row h, over.holds row h)).0;
    holds = λ row h. ((same row).0 (over.each row h, over.holds row h)).1;
    many = over.many;
  }

module _ (P Q : Row → Type 0) (alike : (row : Row) → P row ↔ Q row) where
  module _ (heard : List Item) (window : Window) where
    asked_alike : (row : Row) → (IsRow heard window row × P row) ↔ (IsRow heard window row × Q row)
    asked_alike row = (λ h. (h.0, (alike row).0 h.1), λ h. (h.0, (alike row).1 h.1))

    pub rows_alike : (rows : List Row) → AreRowsWhere P heard window rows → AreRowsWhere Q heard window rows
    rows_alike = rows_same P Q heard heard window asked_alike

    pub many_alike : AreTooManyWhere P heard window → AreTooManyWhere Q heard window
    many_alike = many_same P Q heard heard window asked_alike

  -- of one UID
  pub of_alike : (uid : List ℕ) (row : Row) → IsOf uid P row ↔ IsOf uid Q row
  of_alike uid row = (
    λ h. record { uid_is = h.uid_is; holds = (alike row).0 h.holds },
    λ h. record { uid_is = h.uid_is; holds = (alike row).1 h.holds },
  )

  -- of the same UIDs, in any order and perhaps repeated
  pub among_alike : (uids others : List (List ℕ)) → ((uid : List ℕ) → Contains uids uid ↔ Contains others uid) → (row : Row) →
      IsAmong uids P row ↔ IsAmong others Q row
  among_alike uids others same row = (
    λ h. record { uid_is = (same row.uid).0 h.uid_is; holds = (alike row).0 h.holds },
    λ h. record { uid_is = (same row.uid).1 h.uid_is; holds = (alike row).1 h.holds },
  )

module _ (P : Row → Type 0) (heard : List Item) (window : Window) where
  -- if it holds for each row, these are all rows
  pub rows_of_all : ((row : Row) → IsRow heard window row → P row) → (rows : List Row) → AreRowsWhere P heard window rows →
      AreRows heard window rows
  rows_of_all holds rows are = record { ascend = are.ascend; each = are.each; all = λ row is. are.all row is (holds row is) }

  pub many_of_all : AreTooManyWhere P heard window → AreTooMany heard window
  many_of_all over = record { some = over.some; ascend = over.ascend; each = over.each; many = over.many }

  pub over_limit : (rows : List Row) → AreRowsWhere P heard window rows → row_limit < length rows → AreTooManyWhere P heard window
  over_limit rows are over = record { some = rows; ascend = are.ascend; each = are.each; holds = are.holds; many = over }
