-- A set has one view, and one list text.
use Rattle.std.proofs.Common.{◌≡◌, ℕ, List, ◌≤◌, ◌<◌, length, sym, ◌∙◌, ap, arith}
use Rattle.std.specs.Cmp.{IsTotalOrder}
use Rattle.std.specs.Cmp.Lexicographic.{options_total}
use Rattle.std.specs.declared.cmp.Ordering.TheVariants.{Less}
use Rattle.std.proofs.lemmas.Cmp.{on_total, then_total, nat_list_cmp_total}
use Rattle.itip_moment.specs.OrderLaws.{moment_total}
use Rattle.itip_items.specs.declared.item.Item.{Item}
use Rattle.itip_state.proofs.OneOrder.{less_one_way, same_ascending, not_longer}
use Rattle.itip_view.specs.Rows.{AreRows, AreTooMany, row_limit, row_cmp, moment_of}
use Rattle.itip_view.specs.ListText.{IsListText, list_text}
use Rattle.itip_view.specs.Showing.{Shows, AreRowsWhere, AreTooManyWhere, IsListTextFor}
use Rattle.itip_view.specs.declared.row.Row.{Row}
use Rattle.itip_view.specs.declared.window.Window.{Window}

pub rows_total : IsTotalOrder row_cmp
rows_total = then_total (on_total (λ (row : Row). row.uid) nat_list_cmp_total)
    (on_total (λ (row : Row). moment_of row.id) (options_total moment_total))

rows_apart : (a b : Row) → row_cmp a b ≡ Less → row_cmp b a ≡ Less → ⊥
rows_apart = less_one_way rows_total

pub one_view : (heard : List Item) (window : Window) (rows others : List Row) → AreRows heard window rows → AreRows heard window others →
    rows ≡ others
one_view heard window rows others mine theirs =
    same_ascending (λ (a b : Row). row_cmp a b ≡ Less) rows_apart rows others mine.ascend theirs.ascend
    (λ row. (λ h. theirs.all row (mine.each row h), λ h. mine.all row (theirs.each row h)))

pub one_list_text : (heard : List Item) (window : Window) (text other : List ℕ) → IsListText heard window text →
    IsListText heard window other → text ≡ other
one_list_text heard window text other mine theirs =
    mine.text_is ∙ ap list_text (one_view heard window mine.rows theirs.rows mine.are_rows theirs.are_rows) ∙ sym theirs.text_is

pub text_or_too_many : (heard : List Item) (window : Window) (text : List ℕ) → IsListText heard window text → AreTooMany heard window → ⊥
text_or_too_many heard window text is over =
    let all : length over.some ≤ length is.rows =
    not_longer (λ (a b : Row). row_cmp a b ≡ Less) rows_apart over.some is.rows over.ascend is.are_rows.ascend
    (λ row h. is.are_rows.all row (over.each row h)) in
    let few : length is.rows ≤ row_limit = is.few in
    let many : row_limit < length over.some = over.many in
    absurd (omega arith)

module _ (P : Row → Type 0) (heard : List Item) (window : Window) where
  pub one_where : (rows others : List Row) → AreRowsWhere P heard window rows → AreRowsWhere P heard window others → rows ≡ others
  one_where rows others mine theirs =
      same_ascending (λ (a b : Row). row_cmp a b ≡ Less) rows_apart rows others mine.ascend theirs.ascend (λ row. (
        λ h. theirs.all row (mine.each row h) (mine.holds row h),
        λ h. mine.all row (theirs.each row h) (theirs.holds row h),
      ))

  pub rows_over : (rows : List Row) → AreRowsWhere P heard window rows → AreTooManyWhere P heard window → row_limit < length rows
  rows_over rows are over =
      let all : length over.some ≤ length rows =
      not_longer (λ (a b : Row). row_cmp a b ≡ Less) rows_apart over.some rows over.ascend are.ascend
      (λ row h. are.all row (over.each row h) (over.holds row h)) in
      let many : row_limit < length over.some = over.many in
      omega (arith, all, many)

  pub few_or_too_many : (rows : List Row) → AreRowsWhere P heard window rows → length rows ≤ row_limit → AreTooManyWhere P heard window → ⊥
  few_or_too_many rows are few over =
      let many : row_limit < length rows = rows_over rows are over in
      absurd (omega (arith, few, many))

module _ (address : List ℕ) (heard : List Item) (window : Window) where
  pub one_text_for : (text other : List ℕ) → IsListTextFor address heard window text → IsListTextFor address heard window other →
      text ≡ other
  one_text_for text other mine theirs =
      mine.text_is ∙ ap list_text (one_where (Shows address) heard window mine.rows theirs.rows mine.are_rows theirs.are_rows) ∙
      sym theirs.text_is

  pub text_for_or_too_many : (text : List ℕ) → IsListTextFor address heard window text → AreTooManyWhere (Shows address) heard window → ⊥
  text_for_or_too_many text is over = few_or_too_many (Shows address) heard window is.rows is.are_rows is.few over
