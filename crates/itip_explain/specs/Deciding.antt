-- Which answers decide what a row shows (our own rules).
use Rattle.std.specs.Prelude.{◌⊎◌, List, Some}
use Rattle.std.specs.List.{Contains}
use Rattle.itip_todo.specs.Properties.{Property}
use Rattle.itip_items.specs.declared.item.Item.{Item}
use Rattle.itip_view.specs.Answers.{Asked, Decides}
use Rattle.itip_view.specs.Rows.{IsInstanceRow, IsOccurrenceRow, IsRangeRow, IsSingleRow, IsOpaqueRow}
use Rattle.itip_view.specs.Rows.{instance_answers, occurrence_answers, range_answers, series_answers}
use Rattle.itip_view.specs.declared.row.Row.{Row}
use Rattle.itip_view.specs.declared.window.Window.{Window}

-- an answer decides on the attendee of one of these lines, given what is asked for each line
pub record DecidesAmong (heard : List Item) (asked_of : Property → List Asked) (lines : List Property) (answer : Item) : Type 0 where
  pub line : Property
  pub there : Contains lines line
  pub decides : Decides heard (asked_of line) (Some answer)

-- on the row of an instance
pub record DecidesOnInstance (heard : List Item) (window : Window) (row : Row) (answer : Item) : Type 0 where
  pub is : IsInstanceRow heard window row
  pub decides : DecidesAmong heard (instance_answers row.uid is.at is.item) is.item.todo.attendees answer

-- on the row of an occurrence that the series item governs
pub record DecidesOnOccurrence (heard : List Item) (window : Window) (row : Row) (answer : Item) : Type 0 where
  pub is : IsOccurrenceRow heard window row
  pub decides : DecidesAmong heard (occurrence_answers row.uid is.at is.item) is.item.todo.attendees answer

-- on the row of an occurrence that a range item rules
pub record DecidesOnRange (heard : List Item) (window : Window) (row : Row) (answer : Item) : Type 0 where
  pub is : IsRangeRow heard window row
  pub decides : DecidesAmong heard (range_answers row.uid is.at is.item is.whole) is.item.todo.attendees answer

-- on the row of a to-do that doesn't recur
pub record DecidesOnSingle (heard : List Item) (window : Window) (row : Row) (answer : Item) : Type 0 where
  pub is : IsSingleRow heard window row
  pub decides : DecidesAmong heard (series_answers row.uid is.item) is.item.todo.attendees answer

-- on the row of a to-do whose recurrence isn't expanded
pub record DecidesOnOpaque (heard : List Item) (window : Window) (row : Row) (answer : Item) : Type 0 where
  pub is : IsOpaqueRow heard window row
  pub decides : DecidesAmong heard (series_answers row.uid is.item) is.item.todo.attendees answer

-- an answer decides what a row shows of one of its attendees
abbrev pub DecidesOn : List Item → Window → Row → Item → Type 0
DecidesOn heard window row answer =
    DecidesOnInstance heard window row answer ⊎ (DecidesOnOccurrence heard window row answer
    ⊎ (DecidesOnRange heard window row answer ⊎ (DecidesOnSingle heard window row answer ⊎ DecidesOnOpaque heard window row answer)))
