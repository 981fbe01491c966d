-- Which rows of a UID are appended to a text, place by place.
use Rattle.std.proofs.Common.{◌≡◌, ◌≤◌, ◌+◌, ◌∙◌, ℕ, List, [], ◌∷◌, ◌++◌, sym}
use Rattle.std.proofs.Common.{ap, length, arith, Bool, Option, Some, None, length-append, append_assoc}
use Rattle.std.specs.Int.{from_bool}
use Rattle.std.specs.List.{Contains, filter}
use Rattle.std.specs.Option.{option_to_list}
use Rattle.std.specs.declared.cmp.Ordering.TheVariants.{Less}
use Rattle.std.proofs.lemmas.Grind.{flat_map-append}
use Rattle.std.proofs.lemmas.List.{length_push}
use Rattle.std.proofs.lemmas.List.Elements.{filter-append}
use Rattle.itip_moment.specs.Order.{moment_cmp}
use Rattle.itip_moment.specs.declared.moment.Moment.{Moment}
use Rattle.itip_state.specs.OfUid.{UidPart}
use Rattle.itip_view.specs.ListText.{list_text, row_text}
use Rattle.itip_view.specs.RowsOfUid.{ArePlaces}
use Rattle.itip_view.specs.UnmadeRows.{IsPlaceAt}
use Rattle.itip_view.specs.PutRows.{IsPlacePut, ArePut}
use Rattle.itip_view.specs.Wanted.{wants}
use Rattle.itip_view.specs.declared.row.Row.{Row}
use Rattle.itip_view.specs.declared.unmade_row.UnmadeRow.{UnmadeRow}
use Rattle.itip_view.specs.declared.wanted.Wanted.{Wanted}
use Rattle.itip_view.specs.declared.window.Window.{Window}
use Rattle.itip_view.proofs.Collecting.{RowsUpTo, rows_begin, rows_next, rows_of_places}
use Rattle.itip_view.proofs.Counting.{one_at_most}
use Rattle.itip_view.proofs.Made.{made_at}

-- of the row without a moment, and of those at these moments, `number` are asked for and were appended to a text
pub record PutUpTo (wanted : Wanted) (part : UidPart) (window : Window) (done : List Moment) (old new : List ℕ) (number : ℕ) : Type 0 where
  pub rows : List Row
  pub up_to : RowsUpTo part.items window part.uid done rows
  pub number_is : length (filter (wants wanted) rows) ≡ number
  pub text_is : new ≡ old ++ list_text (filter (wants wanted) rows)
  pub few : number ≤ length done + 1

module _ (wanted : Wanted) (part : UidPart) (window : Window) where
  pub put_begins : (place : Option UnmadeRow) → IsPlaceAt part window None place → (old new : List ℕ) (is_put : Bool) →
      IsPlacePut wanted part place old new is_put → PutUpTo wanted part window [] old new (from_bool is_put)
  put_begins place is old new is_put put =
      let one : from_bool is_put ≤ 1 = one_at_most is_put in
      record {
        rows = option_to_list put.row;
        up_to = rows_begin part.items window part.uid put.row (made_at part window None place is put.row put.made);
        number_is = put.put.number_is;
        text_is = put.put.text_is;
        few = omega (arith, one);
      }

  pub put_more : (done : List Moment) (next : Moment) (old mid new : List ℕ) (number : ℕ) → PutUpTo wanted part window done old mid number →
      ((at : Moment) → Contains done at → moment_cmp at next ≡ Less) → (place : Option UnmadeRow) →
      IsPlaceAt part window (Some next) place → (is_put : Bool) → IsPlacePut wanted part place mid new is_put →
      PutUpTo wanted part window (done ++ next ∷ []) old new (number + from_bool is_put)
  put_more done next old mid new number so later place is is_put put =
      let before : List Row = filter (wants wanted) so.rows in
      let here : List Row = filter (wants wanted) (option_to_list put.row) in
      let both : filter (wants wanted) (so.rows ++ option_to_list put.row) ≡ before ++ here =
      filter-append (wants wanted) so.rows (option_to_list put.row) in
      let sum : length (filter (wants wanted) (so.rows ++ option_to_list put.row)) ≡ length before + length here = ap length both ∙
      length-append before here in
      let number_before : length before ≡ number = so.number_is in
      let number_here : length here ≡ from_bool is_put = put.put.number_is in
      let one : from_bool is_put ≤ 1 = one_at_most is_put in
      let long : length (done ++ next ∷ []) ≡ length done + 1 = length_push done next in
      let few : number ≤ length done + 1 = so.few in
      record {
        rows = so.rows ++ option_to_list put.row;
        up_to = rows_next part.items window part.uid done next so.rows so.up_to later put.row
            (made_at part window (Some next) place is put.row put.made);
        number_is = omega (arith, sum, number_before, number_here);
        text_is = put.put.text_is ∙ ap (λ (front : List ℕ). front ++ list_text here) so.text_is
            ∙ append_assoc old (list_text before) (list_text here)
            ∙ ap (λ (rest : List ℕ). old ++ rest) (sym (flat_map-append row_text before here) ∙ ap list_text (sym both));
        few = omega (arith, one, long, few);
      }

  pub put_all : (places : List Moment) (old new : List ℕ) (number : ℕ) → ArePlaces part.items window part.uid places →
      PutUpTo wanted part window places old new number → ArePut wanted part window old new number
  put_all places old new number are so = record {
    rows = so.rows;
    are_rows = rows_of_places part.items window part.uid places so.rows are so.up_to;
    number_is = so.number_is;
    text_is = so.text_is;
  }
