-- The text of the rows of several UIDs, UID by UID.
use Rattle.std.proofs.Common.{◌≡◌, ◌≤◌, ◌<◌, ◌+◌, ◌∙◌, ℕ, List, [], ◌∷◌, ◌++◌, refl, sym, ap, length, length-append, arith}
use Rattle.std.specs.List.{Contains}
use Rattle.std.specs.Ordering.{nat_cmp}
use Rattle.std.specs.Cmp.Lexicographic.{slice_cmp}
use Rattle.std.specs.declared.cmp.Ordering.TheVariants.{Less}
use Rattle.std.proofs.lemmas.Grind.{flat_map-append}
use Rattle.itip_items.specs.declared.item.Item.{Item}
use Rattle.itip_view.specs.ListText.{list_text, row_text}
use Rattle.itip_view.specs.Rows.{row_limit}
use Rattle.itip_view.specs.Showing.{AreRowsWhere, AreTooManyWhere, IsAmong, IsOf, IsTextAmong}
use Rattle.itip_view.specs.declared.row.Row.{Row}
use Rattle.itip_view.specs.declared.window.Window.{Window}
use Rattle.itip_view.proofs.Gathering.{gather_none, gather_more, gather_too_many}

-- the UIDs so far have `number` rows, and this is their text
pub record TextSoFar (P : Row → Type 0) (heard : List Item) (window : Window) (done : List (List ℕ)) (number : ℕ) (text : List ℕ) : Type 0
  where
    pub rows : List Row
    pub are_rows : AreRowsWhere (IsAmong done P) heard window rows
    pub number_is : length rows ≡ number
    pub few : number ≤ row_limit
    pub text_is : text ≡ list_text rows

module _ (P : Row → Type 0) (heard : List Item) (window : Window) where
  pub text_none : TextSoFar P heard window [] 0 []
  text_none = record { rows = []; are_rows = gather_none heard window P; number_is = refl; few = omega arith; text_is = refl }

  module _ (done : List (List ℕ)) (number : ℕ) (text : List ℕ) (so : TextSoFar P heard window done number text) (uid : List ℕ)
      (more : List Row) (later : (u : List ℕ) → Contains done u → slice_cmp nat_cmp u uid ≡ Less)
      (of : AreRowsWhere (IsOf uid P) heard window more) where
    pub text_more : (sum : ℕ) → sum ≡ number + length more → sum ≤ row_limit → (longer : List ℕ) → longer ≡ text ++ list_text more →
        TextSoFar P heard window (done ++ uid ∷ []) sum longer
    text_more sum sum_is few longer longer_is =
        let long : length (so.rows ++ more) ≡ length so.rows + length more = length-append so.rows more in
        let before : length so.rows ≡ number = so.number_is in
        record {
          rows = so.rows ++ more;
          are_rows = gather_more heard window P done so.rows so.are_rows uid more later of;
          number_is = omega (arith, long, before, sum_is);
          few = few;
          text_is = longer_is ∙ ap (λ (front : List ℕ). front ++ list_text more) so.text_is ∙ sym (flat_map-append row_text so.rows more);
        }

    pub text_too_many : row_limit < number + length more → (rest : List (List ℕ)) →
        AreTooManyWhere (IsAmong ((done ++ uid ∷ []) ++ rest) P) heard window
    text_too_many over rest =
        let before : length so.rows ≡ number = so.number_is in
        gather_too_many heard window P done so.rows so.are_rows uid more later of rest (omega (arith, before, over))

  pub whole_text : (uids : List (List ℕ)) (number : ℕ) (text : List ℕ) → TextSoFar P heard window uids number text →
      IsTextAmong P heard window uids text
  whole_text uids number text so = record {
    rows = so.rows;
    are_rows = so.are_rows;
    few = (let long : length so.rows ≡ number = so.number_is in let few : number ≤ row_limit = so.few in omega (arith, long, few));
    text_is = so.text_is;
  }
