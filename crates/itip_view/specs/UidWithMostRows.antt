-- Which to-do has the most rows (our own rule).
use Rattle.std.specs.Prelude.{◌≡◌, ◌≢◌, ◌≤◌, ◌<◌, ℕ, List, length, Option, Some, None}
use Rattle.std.specs.List.{Contains}
use Rattle.std.specs.Ordering.{nat_cmp}
use Rattle.std.specs.Cmp.Lexicographic.{slice_cmp}
use Rattle.std.specs.declared.cmp.Ordering.TheVariants.{Less}
use Rattle.itip_items.specs.declared.item.Item.{Item}
use Rattle.itip_view.specs.Rows.{IsRow, row_limit}
use Rattle.itip_view.specs.Showing.{AreRowsWhere, AreTooManyWhere, IsAmong, IsOf}
use Rattle.itip_view.specs.declared.row_count.MostRows.{MostRows}
use Rattle.itip_view.specs.declared.row_count.RowCount.{RowCount}
use Rattle.itip_view.specs.declared.row_count.RowCount.TheVariants.{Few, TooMany}
use Rattle.itip_view.specs.declared.row.Row.{Row}
use Rattle.itip_view.specs.declared.window.Window.{Window}

-- `number` of the rows in the window for which P holds are of the UID
pub record HasRows (P : Row → Type 0) (heard : List Item) (window : Window) (uid : List ℕ) (number : ℕ) : Type 0 where
  pub rows : List Row
  pub are_rows : AreRowsWhere (IsOf uid P) heard window rows
  pub number_is : length rows ≡ number

-- the UID has this many, at least one; none has more, and any other that has as many is greater by bytes
pub record HasMost (P : Row → Type 0) (heard : List Item) (window : Window) (most : MostRows) : Type 0 where
  pub some : 0 < most.rows
  pub has : HasRows P heard window most.uid most.rows
  pub no_more : (uid : List ℕ) (number : ℕ) → HasRows P heard window uid number → number ≤ most.rows
  pub least : (uid : List ℕ) → HasRows P heard window uid most.rows → uid ≢ most.uid → slice_cmp nat_cmp most.uid uid ≡ Less

-- the UID with the most rows, or P holds for no row
abbrev pub IsMostOf : (Row → Type 0) → List Item → Window → Option MostRows → Type 0
IsMostOf P heard window None = (row : Row) → IsRow heard window row → ¬ P row
IsMostOf P heard window (Some most) = HasMost P heard window most

-- the same among these UIDs
pub record HasMostAmong (P : Row → Type 0) (heard : List Item) (window : Window) (uids : List (List ℕ)) (most : MostRows) : Type 0 where
  pub there : Contains uids most.uid
  pub some : 0 < most.rows
  pub has : HasRows P heard window most.uid most.rows
  pub no_more : (uid : List ℕ) (number : ℕ) → Contains uids uid → HasRows P heard window uid number → number ≤ most.rows
  pub least : (uid : List ℕ) → Contains uids uid → HasRows P heard window uid most.rows → uid ≢ most.uid →
      slice_cmp nat_cmp most.uid uid ≡ Less

abbrev pub IsMostAmong : (Row → Type 0) → List Item → Window → List (List ℕ) → Option MostRows → Type 0
IsMostAmong P heard window uids None = (uid : List ℕ) → Contains uids uid → HasRows P heard window uid 0
IsMostAmong P heard window uids (Some most) = HasMostAmong P heard window uids most

-- P holds for `number` rows of these UIDs, which is no more than a list may have
pub record AreFewAmong (P : Row → Type 0) (heard : List Item) (window : Window) (uids : List (List ℕ)) (number : ℕ) : Type 0 where
  pub rows : List Row
  pub are_rows : AreRowsWhere (IsAmong uids P) heard window rows
  pub number_is : length rows ≡ number
  pub few : number ≤ row_limit

-- how many there are; or there are too many, and which UID has the most of them
abbrev pub IsCountAmong : (Row → Type 0) → List Item → Window → List (List ℕ) → RowCount → Type 0
IsCountAmong P heard window uids (Few number) = AreFewAmong P heard window uids number
IsCountAmong P heard window uids (TooMany most) =
    AreTooManyWhere (IsAmong uids P) heard window × HasMostAmong P heard window uids most
