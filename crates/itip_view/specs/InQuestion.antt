-- The row in question (our own rule): what an answer to a to-do as a whole, or to an instance, is about. It is the live series
-- item for the to-do as a whole, and otherwise what governs the row with this identifier, in whatever window.
use Rattle.std.specs.Prelude.{◌⊎◌, ℕ, List, Option, Some, None, MatchOption}
use Rattle.itip_moment.specs.declared.moment.Moment.{Moment}
use Rattle.itip_recur.specs.Members.{Occurs}
use Rattle.itip_recur.specs.ToDoShape.{IsSeriesOf}
use Rattle.itip_recur.specs.declared.series.Series.{Series}
use Rattle.itip_items.specs.declared.item.Item.{Item}
use Rattle.itip_view.specs.Answers.{AreShown}
use Rattle.itip_view.specs.Rows.{series_answers, instance_answers, occurrence_answers, range_answers, HasFields, moment_of}
use Rattle.itip_view.specs.Standing.{IsLive, IsLiveSeries, IsLiveInstance, NoneStands, Rules, NoneRules, GovernsBetween}
use Rattle.itip_view.specs.declared.in_question.RowInQuestion.{RowInQuestion}
use Rattle.itip_view.specs.declared.row.Row.{Row}
use Rattle.itip_view.specs.declared.row.ShownAttendee.{ShownAttendee}

-- the live series item of a UID has an occurrence at the moment
pub record OccursAt (heard : List Item) (uid : List ℕ) (at : Moment) : Type 0 where
  pub item : Item
  pub series : Series
  pub live : IsLiveSeries heard uid item
  pub repeats : IsSeriesOf item.todo series
  pub occurs : Occurs series at

-- the item governs an occurrence at which no instance item stands
pub record GovernsOccurrence (heard : List Item) (uid : List ℕ) (at : Moment) (item : Item) : Type 0 where
  pub none_stands : NoneStands heard uid at
  pub occurs : OccursAt heard uid at
  pub governs : GovernsBetween heard uid at item

-- the item governs the row in question
abbrev pub IsInQuestion : List Item → List ℕ → Option Moment → Item → Type 0
IsInQuestion heard uid None item = IsLiveSeries heard uid item
IsInQuestion heard uid (Some at) item = IsLiveInstance heard uid at item ⊎ GovernsOccurrence heard uid at item

-- no row is in question
abbrev pub NoneInQuestion : List Item → List ℕ → Option Moment → Type 0
NoneInQuestion heard uid id = (item : Item) → ¬ IsInQuestion heard uid id item

-- an occurrence that a live range item rules shows these attendees
pub record ShowsRange (heard : List Item) (uid : List ℕ) (at : Moment) (item : Item) (shown : List ShownAttendee) : Type 0 where
  pub id : Moment
  pub rules : Rules heard uid at id item
  pub live : IsLive item
  pub whole : Item
  pub live_series : IsLiveSeries heard uid whole
  pub attendees : AreShown heard (range_answers uid at item whole) item.todo.attendees shown

-- an occurrence that the live series item governs shows these attendees
pub record ShowsOccurrence (heard : List Item) (uid : List ℕ) (at : Moment) (item : Item) (shown : List ShownAttendee) : Type 0 where
  pub none_rules : NoneRules heard uid at
  pub live : IsLiveSeries heard uid item
  pub attendees : AreShown heard (occurrence_answers uid at item) item.todo.attendees shown

-- an occurrence at which no instance item stands, the item that governs it, and the attendees that it shows
pub record ShowsBetween (heard : List Item) (uid : List ℕ) (at : Moment) (item : Item) (shown : List ShownAttendee) : Type 0 where
  pub none_stands : NoneStands heard uid at
  pub occurs : OccursAt heard uid at
  pub shows : ShowsRange heard uid at item shown ⊎ ShowsOccurrence heard uid at item shown

-- an instance that stands and is live, and the attendees that it shows
pub record ShowsInstance (heard : List Item) (uid : List ℕ) (at : Moment) (item : Item) (shown : List ShownAttendee) : Type 0 where
  pub live : IsLiveInstance heard uid at item
  pub attendees : AreShown heard (instance_answers uid at item) item.todo.attendees shown

-- a to-do as a whole, and the attendees that a row of it shows by answers to the to-do as a whole
pub record ShowsWhole (heard : List Item) (uid : List ℕ) (item : Item) (shown : List ShownAttendee) : Type 0 where
  pub live : IsLiveSeries heard uid item
  pub attendees : AreShown heard (series_answers uid item) item.todo.attendees shown

-- the item governs the row in question, and the row shows these attendees
abbrev pub ShowsInQuestion : List Item → List ℕ → Option Moment → Item → List ShownAttendee → Type 0
ShowsInQuestion heard uid None item shown = ShowsWhole heard uid item shown
ShowsInQuestion heard uid (Some at) item shown = ShowsInstance heard uid at item shown ⊎ ShowsBetween heard uid at item shown

-- the row in question was found, or none is in question
abbrev pub IsRowFound : List Item → List ℕ → Option Moment → Option RowInQuestion → Type 0
IsRowFound heard uid id found =
    MatchOption found (NoneInQuestion heard uid id) (λ row. ShowsInQuestion heard uid id row.item.now row.attendees)

-- a row shows what the row in question with its identifier shows
pub record IsRowInQuestion (heard : List Item) (row : Row) : Type 0 where
  pub item : Item
  pub shows : ShowsInQuestion heard row.uid (moment_of row.id) item row.attendees
  pub fields : HasFields item row
