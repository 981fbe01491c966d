-- How many rows of a UID pass a test, place by place.
use Rattle.std.proofs.Common.{◌≡◌, ◌≤◌, ◌+◌, ◌∙◌, ℕ, List, [], ◌∷◌, ◌++◌, refl, ap, length, arith, Bool, true, false, cond}
use Rattle.std.proofs.Common.{Option, Some, None, append-nil, length-append}
use Rattle.std.specs.Int.{from_bool}
use Rattle.std.specs.List.{Contains, filter}
use Rattle.std.specs.Option.{option_to_list}
use Rattle.std.specs.declared.cmp.Ordering.TheVariants.{Less}
use Rattle.std.proofs.lemmas.List.{length_push}
use Rattle.std.proofs.lemmas.List.Elements.{filter-append}
use Rattle.itip_moment.specs.Order.{moment_cmp}
use Rattle.itip_moment.specs.declared.moment.Moment.{Moment}
use Rattle.itip_state.specs.OfUid.{UidPart}
use Rattle.itip_view.specs.RowsOfUid.{ArePlaces}
use Rattle.itip_view.specs.UnmadeRows.{AreWanted, IsPlaceAt, IsWanted}
use Rattle.itip_view.specs.Wanted.{wants}
use Rattle.itip_view.specs.declared.row.Row.{Row}
use Rattle.itip_view.specs.declared.unmade_row.UnmadeRow.{UnmadeRow}
use Rattle.itip_view.specs.declared.wanted.Wanted.{Wanted}
use Rattle.itip_view.specs.declared.window.Window.{Window}
use Rattle.itip_view.proofs.Collecting.{RowsUpTo, rows_begin, rows_next, rows_of_places}
use Rattle.itip_view.proofs.Made.{passes_if, wanted_at}

pub one_at_most : (b : Bool) → from_bool b ≤ 1
one_at_most true = omega arith
one_at_most false = omega arith

length_of_one : (b : Bool) (row : Row) → length (cond b (row ∷ []) []) ≡ from_bool b
length_of_one true row = refl
length_of_one false row = refl

-- one more, if there is one that passes
passing_more : (p : Row → Bool) (rows : List Row) (row : Option Row) → length (filter p (rows ++ option_to_list row)) ≡
    length (filter p rows) + from_bool (passes_if p row)
passing_more p rows None =
    let same : length (filter p (rows ++ [])) ≡ length (filter p rows) = ap (λ (rs : List Row). length (filter p rs)) (append-nil rows) in
    omega (arith, same)
passing_more p rows (Some row) =
    let both : length (filter p (rows ++ row ∷ [])) ≡ length (filter p rows ++ filter p (row ∷ [])) =
    ap length (filter-append p rows (row ∷ [])) in
    let sum : length (filter p rows ++ filter p (row ∷ [])) ≡ length (filter p rows) + length (filter p (row ∷ [])) =
    length-append (filter p rows) (filter p (row ∷ [])) in
    both ∙ sum ∙ ap (λ (n : ℕ). length (filter p rows) + n) (length_of_one (p row) row)

-- of the row without a moment, and of those at these moments, `number` are asked for
pub record CountedUpTo (wanted : Wanted) (part : UidPart) (window : Window) (done : List Moment) (number : ℕ) : Type 0 where
  pub rows : List Row
  pub up_to : RowsUpTo part.items window part.uid done rows
  pub number_is : length (filter (wants wanted) rows) ≡ number
  pub few : number ≤ length done + 1

module _ (wanted : Wanted) (part : UidPart) (window : Window) where
  pub count_begins : (place : Option UnmadeRow) → IsPlaceAt part window None place → (yes : Bool) → IsWanted wanted part place yes →
      CountedUpTo wanted part window [] (from_bool yes)
  count_begins place is out told =
      let row = wanted_at part window None wanted place is out told in
      let more : length (filter (wants wanted) (option_to_list row.0)) ≡ 0 + from_bool (passes_if (wants wanted) row.0) =
      passing_more (wants wanted) [] row.0 in
      let same : from_bool (passes_if (wants wanted) row.0) ≡ from_bool out = ap from_bool row.2 in
      let one : from_bool out ≤ 1 = one_at_most out in
      record {
        rows = option_to_list row.0;
        up_to = rows_begin part.items window part.uid row.0 row.1;
        number_is = omega (arith, more, same);
        few = omega (arith, one);
      }

  pub count_more : (done : List Moment) (next : Moment) (number : ℕ) → CountedUpTo wanted part window done number →
      ((at : Moment) → Contains done at → moment_cmp at next ≡ Less) → (place : Option UnmadeRow) →
      IsPlaceAt part window (Some next) place → (yes : Bool) → IsWanted wanted part place yes →
      CountedUpTo wanted part window (done ++ next ∷ []) (number + from_bool yes)
  count_more done next number so later place is out told =
      let row = wanted_at part window (Some next) wanted place is out told in
      let more : length (filter (wants wanted) (so.rows ++ option_to_list row.0)) ≡
      length (filter (wants wanted) so.rows) + from_bool (passes_if (wants wanted) row.0) = passing_more (wants wanted) so.rows row.0 in
      let same : from_bool (passes_if (wants wanted) row.0) ≡ from_bool out = ap from_bool row.2 in
      let before : length (filter (wants wanted) so.rows) ≡ number = so.number_is in
      let one : from_bool out ≤ 1 = one_at_most out in
      let long : length (done ++ next ∷ []) ≡ length done + 1 = length_push done next in
      let few : number ≤ length done + 1 = so.few in
      record {
        rows = so.rows ++ option_to_list row.0;
        up_to = rows_next part.items window part.uid done next so.rows so.up_to later row.0 row.1;
        number_is = omega (arith, more, same, before);
        few = omega (arith, one, long, few);
      }

  pub counted_all : (places : List Moment) (number : ℕ) → ArePlaces part.items window part.uid places →
      CountedUpTo wanted part window places number → AreWanted wanted part window number
  counted_all places number are so = record {
    rows = so.rows;
    are_rows = rows_of_places part.items window part.uid places so.rows are so.up_to;
    number_is = so.number_is;
  }
