-- Reports by name: what is told of rows, over what is kept, and one of each.
use Rattle.std.proofs.Common.{◌≡◌, ◌<◌, ◌≤◌, ◌∙◌, ℕ, List, [], ◌∷◌, length, refl, sym, ap, subst, Result, Ok, Err, arith}
use Rattle.std.specs.Prelude.{IfOk}
use Rattle.std.specs.List.{Contains}
use Rattle.itip_items.specs.declared.item.Item.{Item}
use Rattle.itip_state.specs.Kept.{AreKept}
use Rattle.itip_state.proofs.Keeping.{kept_again}
use Rattle.itip_state.proofs.Members.{cons_first, none_in}
use Rattle.itip_view.specs.ByUid.{AreLeft, AreAsked, AreFewLeft, AreTooManyLeft}
use Rattle.itip_view.specs.ListText.{list_text}
use Rattle.itip_view.specs.Rows.{AreRows, AreTooMany, row_limit}
use Rattle.itip_view.specs.Showing.{AreTooManyWhere}
use Rattle.itip_view.specs.declared.by_uid.RowsByUid.{RowsByUid}
use Rattle.itip_view.specs.declared.row.Row.{Row}
use Rattle.itip_view.specs.declared.window.Window.{Window}
use Rattle.itip_view.proofs.Alike.{KeepAlike, alike_back}
use Rattle.itip_view.proofs.Gathering.{uid_of_row}
use Rattle.itip_view.proofs.OfKept.{row_of_same}
use Rattle.itip_view.proofs.Left.{left_where, too_many_where}
use Rattle.itip_view.proofs.OneList.{one_view, text_or_too_many}
use Rattle.itip_view.proofs.SameAsked.{rows_of_all, many_of_all}
use Rattle.itip_report.specs.Load.{firsts, load_lines}
use Rattle.itip_report.specs.Progress.{progress_lines}
use Rattle.itip_report.specs.Reports.{AreReportLines}
use Rattle.itip_report.specs.Named.{TellOfRows, IsReportOf, IsOfRows, HasRowsFor, AreRowsFor}
use Rattle.itip_report.specs.declared.report.Report.TheVariants as report
use Rattle.itip_report.specs.declared.report_name.ReportName.{ReportName}
use Rattle.itip_report.specs.declared.report_name.ReportName.TheVariants as name
use Rattle.itip_report.proofs.Nothing.{reported_of_nothing}
use Rattle.itip_report.proofs.OfKept.{lines_alike}
use Rattle.itip_report.proofs.OneReport.{one_lines}

-- a report that tells of no rows needs none
needs_no_rows : (named : ReportName) (heard : List Item) (window : Window) (rows : List Row) → (¬ IsOfRows named) →
    HasRowsFor named heard window rows
needs_no_rows named heard window rows none = record { are_rows = λ of_rows. absurd (none of_rows); few = λ of_rows. absurd (none of_rows) }

-- ---- the rows that a report looks at

none_over : (heard : List Item) (window : Window) → AreTooManyWhere (λ (row : Row). ⊥) heard window → ⊥
none_over heard window over = by over.some over.holds over.many
  where
    by : (rows : List Row) → ((row : Row) → Contains rows row → ⊥) → row_limit < length rows → ⊥
    by [] none many = omega arith
    by (row ∷ rows) none many = none row (cons_first row rows)

module _ (named : ReportName) (heard : List Item) (window : Window) where
  -- those of the window, if it tells of them
  pub rows_of_report : {E : Type 0} (r : Result RowsByUid E) → IsOfRows named →
      IfOk r (AreAsked (λ (row : Row). Unit {0}) heard window) → IfOk r (AreRowsFor named heard window)
  rows_of_report (Ok asked) of_rows are = record { of_rows = λ _. are; none = λ not. absurd (not of_rows) }
  rows_of_report (Err e) of_rows are = tt

  -- none, if it tells of none
  pub no_rows_of_report : {E : Type 0} (r : Result RowsByUid E) → (¬ IsOfRows named) →
      IfOk r (AreAsked (λ (row : Row). ⊥) heard window) → IfOk r (AreRowsFor named heard window)
  no_rows_of_report (Ok asked) not none = record { of_rows = λ of_rows. absurd (not of_rows); none = λ _. none }
  no_rows_of_report (Err e) not none = tt

  module _ (asked : RowsByUid) (are : AreRowsFor named heard window asked) where
    pub has_rows_for : (number : ℕ) (few : AreFewLeft asked number) → HasRowsFor named heard window few.rows
    has_rows_for number few = record {
      are_rows = λ of_rows. rows_of_all (λ (row : Row). Unit {0}) heard window (λ row is. tt) few.rows
          ((left_where (λ (row : Row). Unit {0}) heard window asked (are.of_rows of_rows) few.rows).0 few.are_left);
      few = λ _. subst (λ (n : ℕ). n ≤ row_limit) (sym few.number_is) few.few;
    }

    some_left : AreTooManyLeft asked → (¬ IsOfRows named) → ⊥
    some_left many not = none_over heard window (too_many_where (λ (row : Row). ⊥) heard window asked (are.none not) many)

    pub too_many_for : AreTooManyLeft asked → IsOfRows named → AreTooMany heard window
    too_many_for many of_rows =
        many_of_all (λ (row : Row). Unit {0}) heard window
        (too_many_where (λ (row : Row). Unit {0}) heard window asked (are.of_rows of_rows) many)

-- only a report that tells of rows finds too many
pub of_rows_if_many : (named : ReportName) (heard : List Item) (window : Window) (asked : RowsByUid) →
    AreRowsFor named heard window asked → AreTooManyLeft asked → IsOfRows named
of_rows_if_many name.Load heard window asked are many = tt
of_rows_if_many name.Progress heard window asked are many = tt
of_rows_if_many name.Cancelled heard window asked are many = absurd (some_left name.Cancelled heard window asked are many (λ h. h))
of_rows_if_many name.Orphans heard window asked are many = absurd (some_left name.Orphans heard window asked are many (λ h. h))
of_rows_if_many name.Refresh heard window asked are many = absurd (some_left name.Refresh heard window asked are many (λ h. h))

-- ---- the lines of items and rows

abbrev pub AreLinesFor : ReportName → List Item → List Row → List (List ℕ) → Type 0
AreLinesFor name.Load items rows lines = lines ≡ load_lines rows
AreLinesFor name.Progress items rows lines = lines ≡ progress_lines rows
AreLinesFor name.Cancelled items rows lines = AreReportLines report.Cancelled items lines
AreLinesFor name.Orphans items rows lines = AreReportLines report.Orphans items lines
AreLinesFor name.Refresh items rows lines = AreReportLines report.Refresh items lines

told_of : (named : ReportName) (items : List Item) (rows : List Row) (lines : List (List ℕ)) → AreLinesFor named items rows lines →
    (window : Window) → HasRowsFor named items window rows → IsReportOf named items window lines
told_of name.Load items rows lines are window has =
    record { rows = rows; are_rows = has.are_rows tt; few = has.few tt; lines_are = are }
told_of name.Progress items rows lines are window has =
    record { rows = rows; are_rows = has.are_rows tt; few = has.few tt; lines_are = are }
told_of name.Cancelled items rows lines are window has = are
told_of name.Orphans items rows lines are window has = are
told_of name.Refresh items rows lines are window has = are

-- the result of a call that makes the lines of this report over the rows that are left
pub told_by : {A E : Type 0} (r : Result A E) (lines_of : A → List (List ℕ)) (named other : ReportName) (items : List Item)
    (asked : RowsByUid) → named ≡ other → IfOk r (λ a. (rows : List Row) → AreLeft asked rows → AreLinesFor other items rows (lines_of a)) →
    IfOk r (λ a. (window : Window) (rows : List Row) → AreLeft asked rows → HasRowsFor named items window rows →
    IsReportOf named items window (lines_of a))
told_by (Ok a) lines_of named other items asked same are = λ window rows left.
    told_of named items rows (lines_of a)
    (subst (λ (n : ReportName). AreLinesFor n items rows (lines_of a)) (sym same) (are rows left)) window
told_by (Err e) lines_of named other items asked same are = tt

-- of one that makes them over at most as many rows as a list may have
pub told_if_few : {A E : Type 0} (r : Result A E) (lines_of : A → List (List ℕ)) (named other : ReportName) (items : List Item)
    (asked : RowsByUid) → named ≡ other → IsOfRows other →
    IfOk r (λ a. (rows : List Row) → AreLeft asked rows → length rows ≤ row_limit → AreLinesFor other items rows (lines_of a)) →
    IfOk r (λ a. (window : Window) (rows : List Row) → AreLeft asked rows → HasRowsFor named items window rows →
    IsReportOf named items window (lines_of a))
told_if_few (Ok a) lines_of named other items asked same of_rows are = λ window rows left has.
    told_of named items rows (lines_of a)
    (subst (λ (n : ReportName). AreLinesFor n items rows (lines_of a)) (sym same)
    (are rows left (has.few (subst (λ (n : ReportName). IsOfRows n) (sym same) of_rows)))) window has
told_if_few (Err e) lines_of named other items asked same of_rows are = tt

-- and of one that makes them over no rows
pub told_of_kept : {A E : Type 0} (r : Result A E) (lines_of : A → List (List ℕ)) (named other : ReportName) (items : List Item)
    (asked : RowsByUid) → named ≡ other → (¬ IsOfRows other) → IfOk r (λ a. AreLinesFor other items [] (lines_of a)) →
    IfOk r (λ a. (window : Window) (rows : List Row) → AreLeft asked rows → HasRowsFor named items window rows →
    IsReportOf named items window (lines_of a))
told_of_kept (Ok a) lines_of named other items asked same none are = λ window rows left has.
    told_of named items [] (lines_of a) (subst (λ (n : ReportName). AreLinesFor n items [] (lines_of a)) (sym same) are) window
    (needs_no_rows named items window [] (λ of_rows. none (subst (λ (n : ReportName). IsOfRows n) same of_rows)))
told_of_kept (Err e) lines_of named other items asked same none are = tt

-- ---- nothing heard

no_row : (heard : List Item) (window : Window) (rows : List Row) → heard ≡ [] → AreRows heard window rows → rows ≡ []
no_row heard window [] none are = refl
no_row heard window (row ∷ rows) none are =
    absurd (none_in row.uid (uid_of_row heard window []
    (λ item h. absurd (none_in item (subst (λ (items : List Item). Contains items item) none h))) row
    (are.each row (cons_first row rows))))

no_load : load_lines [] ≡ []
unfolding firsts
no_load = refl

-- nothing is told of it
pub told_of_nothing : (named : ReportName) (heard : List Item) (lines : List (List ℕ)) → heard ≡ [] → lines ≡ [] → (window : Window)
    (rows : List Row) → HasRowsFor named heard window rows → IsReportOf named heard window lines
told_of_nothing name.Load heard lines none empty window rows has = record {
  rows = rows;
  are_rows = has.are_rows tt;
  few = has.few tt;
  lines_are = empty ∙ sym no_load ∙ ap load_lines (sym (no_row heard window rows none (has.are_rows tt)));
}
told_of_nothing name.Progress heard lines none empty window rows has = record {
  rows = rows;
  are_rows = has.are_rows tt;
  few = has.few tt;
  lines_are = empty ∙ ap progress_lines (sym (no_row heard window rows none (has.are_rows tt)));
}
told_of_nothing name.Cancelled heard lines none empty window rows has =
    record { items = []; reported = reported_of_nothing report.Cancelled heard [] none refl; lines_are = empty }
told_of_nothing name.Orphans heard lines none empty window rows has =
    record { items = []; reported = reported_of_nothing report.Orphans heard [] none refl; lines_are = empty }
told_of_nothing name.Refresh heard lines none empty window rows has =
    record { items = []; reported = reported_of_nothing report.Refresh heard [] none refl; lines_are = empty }

-- ---- sets that keep the same

module _ (x y : List Item) (same : KeepAlike x y) (window : Window) where
  told_alike : (tell : List Row → List (List ℕ)) (lines : List (List ℕ)) → TellOfRows tell x window lines → TellOfRows tell y window lines
  told_alike tell lines is = record {
    rows = is.rows;
    are_rows = record {
      ascend = is.are_rows.ascend;
      each = λ row h. row_of_same x y same window row (is.are_rows.each row h);
      all = λ row there. is.are_rows.all row (row_of_same y x (alike_back x y same) window row there);
    };
    few = is.few;
    lines_are = is.lines_are;
  }

  pub report_alike : (named : ReportName) (lines : List (List ℕ)) → IsReportOf named x window lines → IsReportOf named y window lines
  report_alike name.Load lines is = told_alike load_lines lines is
  report_alike name.Progress lines is = told_alike progress_lines lines is
  report_alike name.Cancelled lines is = lines_alike x y same report.Cancelled lines is
  report_alike name.Orphans lines is = lines_alike x y same report.Orphans lines is
  report_alike name.Refresh lines is = lines_alike x y same report.Refresh lines is

-- a report over what is kept is that over all that was heard
pub report_of_kept : (kept heard : List Item) → AreKept kept heard → (window : Window) (named : ReportName) (lines : List (List ℕ)) →
    IsReportOf named kept window lines → IsReportOf named heard window lines
report_of_kept kept heard are = report_alike kept heard (kept_again kept heard are)

-- ---- one report

module _ (heard : List Item) (window : Window) where
  one_told : (tell : List Row → List (List ℕ)) (lines others : List (List ℕ)) → TellOfRows tell heard window lines →
      TellOfRows tell heard window others → lines ≡ others
  one_told tell lines others mine theirs =
      mine.lines_are ∙ ap tell (one_view heard window mine.rows theirs.rows mine.are_rows theirs.are_rows) ∙ sym theirs.lines_are

  pub one_named : (named : ReportName) (lines others : List (List ℕ)) → IsReportOf named heard window lines →
      IsReportOf named heard window others → lines ≡ others
  one_named name.Load lines others mine theirs = one_told load_lines lines others mine theirs
  one_named name.Progress lines others mine theirs = one_told progress_lines lines others mine theirs
  one_named name.Cancelled lines others mine theirs = one_lines heard report.Cancelled lines others mine theirs
  one_named name.Orphans lines others mine theirs = one_lines heard report.Orphans lines others mine theirs
  one_named name.Refresh lines others mine theirs = one_lines heard report.Refresh lines others mine theirs

  told_or_too_many : (tell : List Row → List (List ℕ)) (lines : List (List ℕ)) → TellOfRows tell heard window lines →
      AreTooMany heard window → ⊥
  told_or_too_many tell lines is many = text_or_too_many heard window (list_text is.rows)
      (record { rows = is.rows; are_rows = is.are_rows; few = is.few; text_is = refl }) many

  -- a report that tells of rows has no lines if there are too many rows
  pub named_or_too_many : (named : ReportName) → IsOfRows named → (lines : List (List ℕ)) → IsReportOf named heard window lines →
      AreTooMany heard window → ⊥
  named_or_too_many name.Load of_rows lines is many = told_or_too_many load_lines lines is many
  named_or_too_many name.Progress of_rows lines is many = told_or_too_many progress_lines lines is many
  named_or_too_many name.Cancelled of_rows lines is many = absurd of_rows
  named_or_too_many name.Orphans of_rows lines is many = absurd of_rows
  named_or_too_many name.Refresh of_rows lines is many = absurd of_rows
