-- The rows of a UID before they are made (our own form): what governs a row, what identifies it, which dates it shows and which
-- answers it asks for.
use Rattle.std.specs.Prelude.{◌≡◌, ℕ, Bool, false, List, Option, Some, None, max, length}
use Rattle.std.specs.List.{filter}
use Rattle.itip_moment.specs.declared.moment.Moment.{Moment}
use Rattle.itip_items.specs.declared.item.Item.{Item}
use Rattle.itip_state.specs.OfUid.{UidPart}
use Rattle.itip_view.specs.RowsOfUid.{IsRowOf, IsRowAt, AreRowsOf, asked_by, in_turn, only}
use Rattle.itip_view.specs.Rows.{IsDueOf, IsStartFrom, IsDueFrom}
use Rattle.itip_view.specs.Wanted.{wants}
use Rattle.itip_view.specs.declared.answers.Questions.{Questions}
use Rattle.itip_view.specs.declared.row.Row.{Row}
use Rattle.itip_view.specs.declared.row.RowId.{RowId}
use Rattle.itip_view.specs.declared.row.RowId.TheVariants as id
use Rattle.itip_view.specs.declared.unmade_row.Governing.{Governing}
use Rattle.itip_view.specs.declared.unmade_row.Governing.TheVariants.{Plain, Keyed}
use Rattle.itip_view.specs.declared.unmade_row.RowKind.{RowKind}
use Rattle.itip_view.specs.declared.unmade_row.RowKind.TheVariants.{Single, Opaque, Instance, Occurrence, Ranged}
use Rattle.itip_view.specs.declared.unmade_row.UnmadeRow.{UnmadeRow}
use Rattle.itip_view.specs.declared.wanted.Wanted.{Wanted}
use Rattle.itip_view.specs.declared.window.Window.{Window}

abbrev pub governing_item : Governing → Item
governing_item (Plain item) = item.now
governing_item (Keyed keyed) = keyed.now.item.now

-- what identifies the row
abbrev pub id_of : RowKind → RowId
id_of Single = id.Single
id_of Opaque = id.Opaque
id_of (Instance at) = id.At at.now
id_of (Occurrence at start) = id.At at.now
id_of (Ranged at from series) = id.At at.now

-- which answers it asks for, if this item governs it
abbrev pub questions_of : Item → RowKind → Questions
questions_of item Single = only None item.own
questions_of item Opaque = only None item.own
questions_of item (Instance at) = only (Some at) item.own
questions_of item (Occurrence at start) = in_turn at item.own item.own
questions_of item (Ranged at from series) = in_turn at item.own (max item.own series.now.own)

-- DTSTART and DUE as the item has them
pub record HasOwn (item : Item) (start due : Option Moment) : Type 0 where
  pub start_is : start ≡ item.todo.start
  pub due_is : due ≡ item.todo.due

-- those of an occurrence of a series that begins at a moment
pub record HasMoved (item : Item) (at from : Moment) (start due : Option Moment) : Type 0 where
  pub start_is : start ≡ Some at
  pub due_is : IsDueOf item.todo.due from at due

-- those of an occurrence that is ruled by a range item from an id on
pub record HasRanged (item : Item) (at from : Moment) (start due : Option Moment) : Type 0 where
  pub start_is : IsStartFrom item.todo.start from at start
  pub due_is : IsDueFrom item.todo.due from at due

-- the dates that it shows, if this item governs it
abbrev pub HasDates : Item → RowKind → Option Moment → Option Moment → Type 0
HasDates item Single start due = HasOwn item start due
HasDates item Opaque start due = HasOwn item start due
HasDates item (Instance at) start due = HasOwn item start due
HasDates item (Occurrence at from) start due = HasMoved item at.now from.now start due
HasDates item (Ranged at from series) start due = HasRanged item at.now from.now start due

-- the row as it is made from the items of the UID
pub record IsShownAt (part : UidPart) (place : UnmadeRow) (row : Row) : Type 0 where
  pub start : Option Moment
  pub due : Option Moment
  pub dates : HasDates (governing_item place.governing) place.kind start due
  pub row_is : IsRowOf part.items (governing_item place.governing) part.uid (id_of place.kind) start due
      (asked_by part.uid (questions_of (governing_item place.governing) place.kind)) row

-- the place of the row at this moment, or of the one without a moment: made, it is the row there; or there is no row
abbrev pub IsPlaceAt : UidPart → Window → Option Moment → Option UnmadeRow → Type 0
IsPlaceAt part window at None = (row : Row) → IsRowAt part.items window part.uid at row → ⊥
IsPlaceAt part window at (Some place) = (row : Row) → IsShownAt part place row → IsRowAt part.items window part.uid at row

-- the row of a place, if there is one
abbrev pub IsMade : UidPart → Option UnmadeRow → Option Row → Type 0
IsMade part None row = row ≡ None
IsMade part (Some place) row = (made : Row) × (row ≡ Some made) × IsShownAt part place made

-- whether the row of a place is asked for
abbrev pub IsWanted : Wanted → UidPart → Option UnmadeRow → Bool → Type 0
IsWanted wanted part None is = is ≡ false
IsWanted wanted part (Some place) is = (row : Row) × IsShownAt part place row × (wants wanted row ≡ is)

-- `number` rows of the UID are asked for
pub record AreWanted (wanted : Wanted) (part : UidPart) (window : Window) (number : ℕ) : Type 0 where
  pub rows : List Row
  pub are_rows : AreRowsOf part.items window part.uid rows
  pub number_is : length (filter (wants wanted) rows) ≡ number
