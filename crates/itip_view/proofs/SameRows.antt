-- Sets with the same rows in a window have the same list there.
use Rattle.std.proofs.Common.{ℕ, List, ◌↔◌}
use Rattle.itip_items.specs.declared.item.Item.{Item}
use Rattle.itip_view.specs.ListText.{IsListText}
use Rattle.itip_view.specs.Rows.{IsRow, AreTooMany}
use Rattle.itip_view.specs.Showing.{Shows, AreTooManyWhere, IsListTextFor}
use Rattle.itip_view.specs.declared.row.Row.{Row}
use Rattle.itip_view.specs.declared.window.Window.{Window}

module _ (x y : List Item) (window : Window) (same : (row : Row) → IsRow x window row ↔ IsRow y window row) where
  pub text_of_same_rows : (text : List ℕ) → IsListText x window text → IsListText y window text
  text_of_same_rows text is = record {
    rows = is.rows;
    are_rows = record {
      ascend = is.are_rows.ascend;
      each = λ row h. (same row).0 (is.are_rows.each row h);
      all = λ row of. is.are_rows.all row ((same row).1 of);
    };
    few = is.few;
    text_is = is.text_is;
  }

  pub many_of_same_rows : AreTooMany x window → AreTooMany y window
  many_of_same_rows over =
      record { some = over.some; ascend = over.ascend; each = λ row h. (same row).0 (over.each row h); many = over.many }

-- the same of those that show an attendee
module _ (address : List ℕ) (x y : List Item) (window : Window) (same : (row : Row) → Shows address row → IsRow x window row ↔
    IsRow y window row) where
  pub text_for_of_same_rows : (text : List ℕ) → IsListTextFor address x window text → IsListTextFor address y window text
  text_for_of_same_rows text is = record {
    rows = is.rows;
    are_rows = record {
      ascend = is.are_rows.ascend;
      each = λ row h. (same row (is.are_rows.holds row h)).0 (is.are_rows.each row h);
      holds = is.are_rows.holds;
      all = λ row of shows. is.are_rows.all row ((same row shows).1 of) shows;
    };
    few = is.few;
    text_is = is.text_is;
  }

  pub many_for_of_same_rows : AreTooManyWhere (Shows address) x window → AreTooManyWhere (Shows address) y window
  many_for_of_same_rows over = record {
    some = over.some;
    ascend = over.ascend;
    each = λ row h. (same row (over.holds row h)).0 (over.each row h);
    holds = over.holds;
    many = over.many;
  }
