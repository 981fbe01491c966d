-- The rows of a task list (our own rules): one for each standing live instance, one for each occurrence of a live series at
-- which no instance stands and which an item governs, one for each live to-do that doesn't recur, unless an instance stands at
-- its DTSTART, and one for each live to-do whose recurrence isn't expanded.
use Rattle.std.specs.Prelude.{◌≡◌, ◌⊎◌, ℕ, ◌<◌, ℤ, pos, ◌-ℤ◌, List, [], ◌∷◌, Option, Some, None, unwrap_or, length, max}
use Rattle.std.specs.Option.{option_map, option_cmp}
use Rattle.std.specs.List.{Contains, AllPairs}
use Rattle.std.specs.Ordering.{nat_cmp, ordering_then}
use Rattle.std.specs.Cmp.Lexicographic.{slice_cmp}
use Rattle.std.specs.declared.cmp.Ordering.{Ordering}
use Rattle.std.specs.declared.cmp.Ordering.TheVariants.{Less}
use Rattle.itip_moment.specs.Moment.{moment_day, moment_second}
use Rattle.itip_moment.specs.Order.{moment_cmp}
use Rattle.itip_moment.specs.Shift.{CanShift, IsShifted}
use Rattle.itip_moment.specs.declared.moment.Moment.{Moment}
use Rattle.itip_todo.specs.Properties.{Property}
use Rattle.itip_recur.specs.Occurrences.{OccursIn}
use Rattle.itip_recur.specs.ToDoShape.{IsShape, IsSeriesOf}
use Rattle.itip_recur.specs.declared.series.Series.{Series}
use Rattle.itip_recur.specs.declared.series.Shape.TheVariants as shape
use Rattle.itip_items.specs.declared.item.Item.{Item}
use Rattle.itip_view.specs.Answers.{Asked, AreShown, answer_key}
use Rattle.itip_view.specs.Progress.{progress_of}
use Rattle.itip_view.specs.Standing.{IsLive, HaveOneForm, NoneStands, Rules, NoneRules, IsLiveSeries, IsLiveInstance, Governs}
use Rattle.itip_view.specs.Window.{IsInWindow}
use Rattle.itip_view.specs.declared.row.Row.{Row}
use Rattle.itip_view.specs.declared.row.RowId.{RowId}
use Rattle.itip_view.specs.declared.row.RowId.TheVariants as id
use Rattle.itip_view.specs.declared.window.Window.{Window}

-- the most rows that a list may have (our own limit)
abbrev pub row_limit : ℕ
row_limit = 100_000

-- what a row shows of the item that governs it
pub record HasFields (item : Item) (row : Row) : Type 0 where
  pub seq : row.seq ≡ item.own
  pub status : row.status ≡ item.todo.status
  pub percent : row.percent ≡ item.todo.percent
  pub priority : row.priority ≡ item.todo.priority
  pub summary : row.summary ≡ option_map (λ (p : Property). p.value) item.todo.summary

-- the progress of the attendees that the row shows
abbrev pub HasProgress : Row → Type 0
HasProgress row = row.progress ≡ progress_of row.attendees

-- DTSTART and DUE as the item has them
pub record HasOwnDates (item : Item) (row : Row) : Type 0 where
  pub start : row.start ≡ item.todo.start
  pub due : row.due ≡ item.todo.due

-- the answers to an instance, or to the to-do as a whole, from a sequence on
abbrev pub answers_since : ℕ → List ℕ → Option Moment → Property → Asked
answers_since since uid id line = record { key = answer_key uid id line; since = since }

-- where the answers of an attendee are looked for: on the row of an instance, those to the instance
abbrev pub instance_answers : List ℕ → Moment → Item → Property → List Asked
instance_answers uid at item line = answers_since item.own uid (Some at) line ∷ []

-- on the row of an occurrence, those to the occurrence, then those to the to-do as a whole
abbrev pub occurrence_answers : List ℕ → Moment → Item → Property → List Asked
occurrence_answers uid at item line = answers_since item.own uid (Some at) line ∷ answers_since item.own uid None line ∷ []

-- on the row of an occurrence that a range item rules, the same, but those to the to-do as a whole are no earlier than the
-- series item either
abbrev pub range_answers : List ℕ → Moment → Item → Item → Property → List Asked
range_answers uid at item series line =
    answers_since item.own uid (Some at) line ∷ answers_since (max item.own series.own) uid None line ∷ []

-- on any other row, those to the to-do as a whole
abbrev pub series_answers : List ℕ → Item → Property → List Asked
series_answers uid item line = answers_since item.own uid None line ∷ []

-- the day of an instance: that of DTSTART, else of the recurrence id
abbrev pub instance_day : Moment → Option Moment → Option ℤ
instance_day at None = Some (moment_day at)
instance_day at (Some start) = Some (moment_day start)

-- the row of an instance that stands and is live
pub record IsInstanceRow (heard : List Item) (window : Window) (row : Row) : Type 0 where
  pub item : Item
  pub at : Moment
  pub live : IsLiveInstance heard row.uid at item
  pub in_window : IsInWindow window.from window.to (instance_day at item.todo.start)
  pub id : row.id ≡ id.At at
  pub fields : HasFields item row
  pub dates : HasOwnDates item row
  pub attendees : AreShown heard (instance_answers row.uid at item) item.todo.attendees row.attendees
  pub progress : HasProgress row

-- the days from one moment to another
abbrev pub days_to : Moment → Moment → ℤ
days_to start m = moment_day m -ℤ moment_day start

-- the difference of their seconds of the day; a date has second 0
abbrev pub seconds_to : Moment → Moment → ℤ
seconds_to start m = pos (unwrap_or (moment_second m) 0) -ℤ pos (unwrap_or (moment_second start) 0)

-- the moment shown is a date, moved by the distance from one moment to another
pub record IsMoved (date start m shown : Moment) : Type 0 where
  pub can : CanShift date (days_to start m) (seconds_to start m)
  pub shifted : IsShifted date (days_to start m) (seconds_to start m) shown

-- DUE of an occurrence: absent if the to-do has none, if occurrence and DTSTART differ in form or zone, or if it can't be moved
abbrev pub IsDueOf : Option Moment → Moment → Moment → Option Moment → Type 0
IsDueOf None start m shown = shown ≡ None
IsDueOf (Some due) start m None = HaveOneForm start m → CanShift due (days_to start m) (seconds_to start m) → ⊥
IsDueOf (Some due) start m (Some shown) = HaveOneForm start m × IsMoved due start m shown

-- the row of an occurrence of a live series, where no instance stands and no range item rules
pub record IsOccurrenceRow (heard : List Item) (window : Window) (row : Row) : Type 0 where
  pub item : Item
  pub at : Moment
  pub series : Series
  pub live : IsLiveSeries heard row.uid item
  pub repeats : IsSeriesOf item.todo series
  pub occurs : OccursIn series window.from window.to at
  pub none_stands : NoneStands heard row.uid at
  pub none_rules : NoneRules heard row.uid at
  pub id : row.id ≡ id.At at
  pub fields : HasFields item row
  pub start : row.start ≡ Some at
  pub due : IsDueOf item.todo.due series.start at row.due
  pub attendees : AreShown heard (occurrence_answers row.uid at item) item.todo.attendees row.attendees
  pub progress : HasProgress row

-- A date of a range item as an occurrence shows it: moved by the distance from the id to the occurrence; absent if its form or
-- zone isn't that of the id, or if it can't be moved.
abbrev pub IsDateFrom : Moment → Moment → Moment → Option Moment → Type 0
IsDateFrom date from at None = HaveOneForm from date → CanShift date (days_to from at) (seconds_to from at) → ⊥
IsDateFrom date from at (Some shown) = HaveOneForm from date × IsMoved date from at shown

-- START: from DTSTART, or the occurrence itself if the item has none
abbrev pub IsStartFrom : Option Moment → Moment → Moment → Option Moment → Type 0
IsStartFrom None from at shown = shown ≡ Some at
IsStartFrom (Some start) from at shown = IsDateFrom start from at shown

-- DUE: absent if the item has none
abbrev pub IsDueFrom : Option Moment → Moment → Moment → Option Moment → Type 0
IsDueFrom None from at shown = shown ≡ None
IsDueFrom (Some due) from at shown = IsDateFrom due from at shown

-- the row of an occurrence of a live series, where no instance stands and a live range item rules
pub record IsRangeRow (heard : List Item) (window : Window) (row : Row) : Type 0 where
  pub whole : Item
  pub item : Item
  pub from : Moment
  pub at : Moment
  pub series : Series
  pub live_series : IsLiveSeries heard row.uid whole
  pub repeats : IsSeriesOf whole.todo series
  pub occurs : OccursIn series window.from window.to at
  pub none_stands : NoneStands heard row.uid at
  pub rules : Rules heard row.uid at from item
  pub live : IsLive item
  pub id : row.id ≡ id.At at
  pub fields : HasFields item row
  pub start : IsStartFrom item.todo.start from at row.start
  pub due : IsDueFrom item.todo.due from at row.due
  pub attendees : AreShown heard (range_answers row.uid at item whole) item.todo.attendees row.attendees
  pub progress : HasProgress row

-- the day of DTSTART, else of DUE, else none
abbrev pub day_of : Option Moment → Option Moment → Option ℤ
day_of (Some start) due = Some (moment_day start)
day_of None (Some due) = Some (moment_day due)
day_of None None = None

-- no instance stands at DTSTART
abbrev pub NoneStandsAtStart : List Item → List ℕ → Option Moment → Type 0
NoneStandsAtStart heard uid None = Unit {0}
NoneStandsAtStart heard uid (Some start) = NoneStands heard uid start

-- the row of a live to-do that doesn't recur
pub record IsSingleRow (heard : List Item) (window : Window) (row : Row) : Type 0 where
  pub item : Item
  pub live : IsLiveSeries heard row.uid item
  pub single : IsShape item.todo shape.Single
  pub none_stands : NoneStandsAtStart heard row.uid item.todo.start
  pub in_window : IsInWindow window.from window.to (day_of item.todo.start item.todo.due)
  pub id : row.id ≡ id.Single
  pub fields : HasFields item row
  pub dates : HasOwnDates item row
  pub attendees : AreShown heard (series_answers row.uid item) item.todo.attendees row.attendees
  pub progress : HasProgress row

-- the row of a live to-do whose recurrence isn't expanded; it is in every window
pub record IsOpaqueRow (heard : List Item) (window : Window) (row : Row) : Type 0 where
  pub item : Item
  pub live : IsLiveSeries heard row.uid item
  pub opaque : IsShape item.todo shape.Opaque
  pub id : row.id ≡ id.Opaque
  pub fields : HasFields item row
  pub dates : HasOwnDates item row
  pub attendees : AreShown heard (series_answers row.uid item) item.todo.attendees row.attendees
  pub progress : HasProgress row

-- the row belongs to the view of a set in a window
abbrev pub IsRow : List Item → Window → Row → Type 0
IsRow heard window row =
    IsInstanceRow heard window row ⊎ (IsOccurrenceRow heard window row
    ⊎ (IsRangeRow heard window row ⊎ (IsSingleRow heard window row ⊎ IsOpaqueRow heard window row)))

-- the moment that names a row
abbrev pub moment_of : RowId → Option Moment
moment_of id.Single = None
moment_of (id.At at) = Some at
moment_of id.Opaque = None

-- the row shows the item that governs what it names
pub record ShowsGoverning (heard : List Item) (row : Row) : Type 0 where
  pub item : Item
  pub governs : Governs heard row.uid (moment_of row.id) item
  pub fields : HasFields item row

-- the order of rows: by UID, then rows without a moment, then by moment
abbrev pub row_cmp : Row → Row → Ordering
row_cmp a b = ordering_then (slice_cmp nat_cmp a.uid b.uid) (option_cmp moment_cmp (moment_of a.id) (moment_of b.id))

-- rows in their order, each once
abbrev pub AscendRows : List Row → Type 0
AscendRows = AllPairs (λ (a b : Row). row_cmp a b ≡ Less)

-- the rows of the view in their order, each once
pub record AreRows (heard : List Item) (window : Window) (rows : List Row) : Type 0 where
  pub ascend : AscendRows rows
  pub each : (row : Row) → Contains rows row → IsRow heard window row
  pub all : (row : Row) → IsRow heard window row → Contains rows row

-- the window has more rows than a list may have
pub record AreTooMany (heard : List Item) (window : Window) : Type 0 where
  pub some : List Row
  pub ascend : AscendRows some
  pub each : (row : Row) → Contains some row → IsRow heard window row
  pub many : row_limit < length some
