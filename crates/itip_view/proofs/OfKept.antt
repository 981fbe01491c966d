-- The view needs only what is kept.
use Rattle.std.proofs.Common.{ℕ, List, inl, inr}
use Rattle.std.specs.Prelude.{Option, Some, None}
use Rattle.itip_moment.specs.declared.moment.Moment.{Moment}
use Rattle.itip_items.specs.declared.item.Item.{Item}
use Rattle.itip_state.specs.Kept.{AreKept}
use Rattle.itip_state.proofs.Keeping.{kept_again}
use Rattle.itip_view.specs.Rows.{IsInstanceRow, IsOccurrenceRow, IsRangeRow, IsSingleRow, IsOpaqueRow, NoneStandsAtStart, IsRow, AreRows}
use Rattle.itip_view.specs.Rows.{AreTooMany}
use Rattle.itip_view.specs.ListText.{IsListText}
use Rattle.itip_view.specs.Showing.{Shows, AreRowsWhere, AreTooManyWhere, IsListTextFor}
use Rattle.itip_view.specs.declared.row.Row.{Row}
use Rattle.itip_view.specs.declared.window.Window.{Window}
use Rattle.itip_view.proofs.Alike.{KeepAlike, alike_back, none_stands_alike, rules_alike, none_rules_alike, live_series_alike}
use Rattle.itip_view.proofs.Alike.{live_instance_alike, instance_shown, occurrence_shown, range_shown, series_shown}

none_at_start : (x y : List Item) → KeepAlike x y → (uid : List ℕ) (start : Option Moment) → NoneStandsAtStart x uid start →
    NoneStandsAtStart y uid start
none_at_start x y same uid None none = tt
none_at_start x y same uid (Some start) none = none_stands_alike x y same uid start none

module _ (x y : List Item) (same : KeepAlike x y) (window : Window) (row : Row) where
  instance_alike : IsInstanceRow x window row → IsInstanceRow y window row
  instance_alike is = record {
    item = is.item;
    at = is.at;
    live = live_instance_alike x y same row.uid is.at is.item is.live;
    in_window = is.in_window;
    id = is.id;
    fields = is.fields;
    dates = is.dates;
    attendees = instance_shown x y same row.uid is.item is.at is.item.todo.attendees row.attendees is.attendees;
    progress = is.progress;
  }

  occurrence_alike : IsOccurrenceRow x window row → IsOccurrenceRow y window row
  occurrence_alike is = record {
    item = is.item;
    at = is.at;
    series = is.series;
    live = live_series_alike x y same row.uid is.item is.live;
    repeats = is.repeats;
    occurs = is.occurs;
    none_stands = none_stands_alike x y same row.uid is.at is.none_stands;
    none_rules = none_rules_alike x y same row.uid is.at is.none_rules;
    id = is.id;
    fields = is.fields;
    start = is.start;
    due = is.due;
    attendees = occurrence_shown x y same row.uid is.item is.live.best is.at is.item.todo.attendees row.attendees is.attendees;
    progress = is.progress;
  }

  range_alike : IsRangeRow x window row → IsRangeRow y window row
  range_alike is = record {
    whole = is.whole;
    item = is.item;
    from = is.from;
    at = is.at;
    series = is.series;
    live_series = live_series_alike x y same row.uid is.whole is.live_series;
    repeats = is.repeats;
    occurs = is.occurs;
    none_stands = none_stands_alike x y same row.uid is.at is.none_stands;
    rules = rules_alike x y same row.uid is.at is.from is.item is.rules;
    live = is.live;
    id = is.id;
    fields = is.fields;
    start = is.start;
    due = is.due;
    attendees = range_shown x y same row.uid is.item is.whole is.live_series.best is.at is.item.todo.attendees row.attendees is.attendees;
    progress = is.progress;
  }

  single_alike : IsSingleRow x window row → IsSingleRow y window row
  single_alike is = record {
    item = is.item;
    live = live_series_alike x y same row.uid is.item is.live;
    single = is.single;
    none_stands = none_at_start x y same row.uid is.item.todo.start is.none_stands;
    in_window = is.in_window;
    id = is.id;
    fields = is.fields;
    dates = is.dates;
    attendees = series_shown x y same row.uid is.item is.live.best is.item.todo.attendees row.attendees is.attendees;
    progress = is.progress;
  }

  opaque_alike : IsOpaqueRow x window row → IsOpaqueRow y window row
  opaque_alike is = record {
    item = is.item;
    live = live_series_alike x y same row.uid is.item is.live;
    opaque = is.opaque;
    id = is.id;
    fields = is.fields;
    dates = is.dates;
    attendees = series_shown x y same row.uid is.item is.live.best is.item.todo.attendees row.attendees is.attendees;
    progress = is.progress;
  }

-- two sets that keep the same have the same rows
pub row_of_same : (x y : List Item) → KeepAlike x y → (window : Window) (row : Row) → IsRow x window row → IsRow y window row
row_of_same x y same window row (inl is) = inl (instance_alike x y same window row is)
row_of_same x y same window row (inr (inl is)) = inr (inl (occurrence_alike x y same window row is))
row_of_same x y same window row (inr (inr (inl is))) = inr (inr (inl (range_alike x y same window row is)))
row_of_same x y same window row (inr (inr (inr (inl is)))) = inr (inr (inr (inl (single_alike x y same window row is))))
row_of_same x y same window row (inr (inr (inr (inr is)))) = inr (inr (inr (inr (opaque_alike x y same window row is))))

-- what is kept has the rows of all that was heard
pub rows_of_kept : (kept heard : List Item) → AreKept kept heard → (window : Window) (rows : List Row) → AreRows kept window rows →
    AreRows heard window rows
rows_of_kept kept heard are window rows of =
    let same = kept_again kept heard are in
    record {
      ascend = of.ascend;
      each = λ row h. row_of_same kept heard same window row (of.each row h);
      all = λ row is. of.all row (row_of_same heard kept (alike_back kept heard same) window row is);
    }

pub too_many_of_kept : (kept heard : List Item) → AreKept kept heard → (window : Window) → AreTooMany kept window → AreTooMany heard window
too_many_of_kept kept heard are window over = record {
  some = over.some;
  ascend = over.ascend;
  each = λ row h. row_of_same kept heard (kept_again kept heard are) window row (over.each row h);
  many = over.many;
}

pub text_of_kept : (kept heard : List Item) → AreKept kept heard → (window : Window) (text : List ℕ) → IsListText kept window text →
    IsListText heard window text
text_of_kept kept heard are window text is = record {
  rows = is.rows;
  are_rows = rows_of_kept kept heard are window is.rows is.are_rows;
  few = is.few;
  text_is = is.text_is;
}

module _ (P : Row → Type 0) (kept heard : List Item) (are : AreKept kept heard) (window : Window) where
  pub rows_where_of_kept : (rows : List Row) → AreRowsWhere P kept window rows → AreRowsWhere P heard window rows
  rows_where_of_kept rows of =
      let same = kept_again kept heard are in
      record {
        ascend = of.ascend;
        each = λ row h. row_of_same kept heard same window row (of.each row h);
        holds = of.holds;
        all = λ row is. of.all row (row_of_same heard kept (alike_back kept heard same) window row is);
      }

  pub many_where_of_kept : AreTooManyWhere P kept window → AreTooManyWhere P heard window
  many_where_of_kept over = record {
    some = over.some;
    ascend = over.ascend;
    each = λ row h. row_of_same kept heard (kept_again kept heard are) window row (over.each row h);
    holds = over.holds;
    many = over.many;
  }

pub text_for_of_kept : (address : List ℕ) (kept heard : List Item) → AreKept kept heard → (window : Window) (text : List ℕ) →
    IsListTextFor address kept window text → IsListTextFor address heard window text
text_for_of_kept address kept heard are window text is = record {
  rows = is.rows;
  are_rows = rows_where_of_kept (Shows address) kept heard are window is.rows is.are_rows;
  few = is.few;
  text_is = is.text_is;
}
