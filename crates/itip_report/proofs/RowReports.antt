-- A report of rows that are made a UID at a time.
use Rattle.std.proofs.Common.{◌≡◌, ◌≤◌, ◌+◌, ◌∙◌, ℕ, List, [], ◌++◌, refl, sym, ap, length, length-append, append_assoc, append-nil, arith}
use Rattle.std.proofs.lemmas.List.Concat.{flat_map-append}
use Rattle.itip_view.specs.ByUid.{AreLeft, IsDone, IsPart}
use Rattle.itip_view.specs.Rows.{row_limit}
use Rattle.itip_view.specs.declared.by_uid.RowsByUid.{RowsByUid}
use Rattle.itip_view.specs.declared.row.Row.{Row}
use Rattle.itip_report.specs.Load.{load_lines}
use Rattle.itip_report.specs.Progress.{progress_line, progress_lines}
use Rattle.itip_report.specs.Tally.{AreTallied}
use Rattle.itip_report.specs.declared.load.Tally.{Tally}

-- Of these rows some were told of, and others are left.
pub record TellsSoFar (asked : RowsByUid) (all : List Row) (lines : List (List ℕ)) : Type 0 where
  pub done : List Row
  pub left : List Row
  pub are_left : AreLeft asked left
  pub whole : all ≡ done ++ left
  pub told : lines ≡ progress_lines done

pub none_told : (asked : RowsByUid) (all : List Row) (lines : List (List ℕ)) → AreLeft asked all → lines ≡ [] → TellsSoFar asked all lines
none_told asked all lines are none = record { done = []; left = all; are_left = are; whole = refl; told = none }

module _ (asked : RowsByUid) (all : List Row) (lines : List (List ℕ)) (so_far : TellsSoFar asked all lines) where
  pub one_told : (next : RowsByUid) (rows : List Row) → IsPart asked next rows → (grown more : List (List ℕ)) → grown ≡ lines ++ more →
      more ≡ progress_lines rows → TellsSoFar next all grown
  one_told next rows part grown more grown_is more_is =
      let split = part.splits so_far.left so_far.are_left in
      record {
        done = so_far.done ++ rows;
        left = split.0;
        are_left = split.1;
        whole = so_far.whole ∙ ap (λ (t : List Row). so_far.done ++ t) split.2 ∙ sym (append_assoc so_far.done rows split.0);
        told = grown_is ∙ ap (λ (t : List (List ℕ)). t ++ more) so_far.told ∙
            ap (λ (t : List (List ℕ)). progress_lines so_far.done ++ t) more_is ∙
            sym (flat_map-append progress_line so_far.done rows);
      }

  pub all_told : (next : RowsByUid) → IsDone asked next → lines ≡ progress_lines all
  all_told next none =
      so_far.told ∙ ap progress_lines (sym (so_far.whole ∙
      ap (λ (rows : List Row). so_far.done ++ rows) ((none.no_row so_far.left).0 so_far.are_left) ∙ append-nil so_far.done))

-- Of these rows some were counted, and others are left.
pub record CountsSoFar (asked : RowsByUid) (all : List Row) (tally : Tally) : Type 0 where
  pub done : List Row
  pub left : List Row
  pub are_left : AreLeft asked left
  pub whole : all ≡ done ++ left
  pub counted : AreTallied done tally

pub none_counted : (asked : RowsByUid) (all : List Row) (tally : Tally) → AreLeft asked all → AreTallied [] tally →
    CountsSoFar asked all tally
none_counted asked all tally are none = record { done = []; left = all; are_left = are; whole = refl; counted = none }

module _ (asked : RowsByUid) (all : List Row) (tally : Tally) (so_far : CountsSoFar asked all tally) where
  pub one_counted : length all ≤ row_limit → (next : RowsByUid) (rows : List Row) → IsPart asked next rows → (grown : Tally) →
      ((done : List Row) → length done + length rows ≤ 18446744073709551615 → AreTallied done tally → AreTallied (done ++ rows) grown) →
      CountsSoFar next all grown
  one_counted few next rows part grown counts =
      let split = part.splits so_far.left so_far.are_left in
      let is : all ≡ so_far.done ++ (rows ++ split.0) =
      so_far.whole ∙ ap (λ (t : List Row). so_far.done ++ t) split.2 in
      let long : length all ≡ length so_far.done + length (rows ++ split.0) = ap length is ∙ length-append so_far.done (rows ++ split.0) in
      let behind : length (rows ++ split.0) ≡ length rows + length split.0 = length-append rows split.0 in
      record {
        done = so_far.done ++ rows;
        left = split.0;
        are_left = split.1;
        whole = is ∙ sym (append_assoc so_far.done rows split.0);
        counted = counts so_far.done (omega (arith, few, long, behind)) so_far.counted;
      }

  pub all_counted : (next : RowsByUid) → IsDone asked next → (lines : List (List ℕ)) →
      ((done : List Row) → AreTallied done tally → lines ≡ load_lines done) → lines ≡ load_lines all
  all_counted next none lines told =
      told so_far.done so_far.counted ∙ ap load_lines (sym (so_far.whole ∙
      ap (λ (rows : List Row). so_far.done ++ rows) ((none.no_row so_far.left).0 so_far.are_left) ∙ append-nil so_far.done))
