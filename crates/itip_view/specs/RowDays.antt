-- The days on which the rows of an item can fall, and which items name an attendee of a row (our own rules).
use Rattle.std.specs.Prelude.{◌≡◌, ℕ, ℤ, Bool, true, false, cond, List, Option, Some, None}
use Rattle.std.specs.List.{Contains}
use Rattle.std.specs.Option.{option_map}
use Rattle.itip_todo.specs.Table.{attendee_key}
use Rattle.itip_todo.specs.Properties.{Property}
use Rattle.itip_todo.specs.declared.todo.Todo.{Todo}
use Rattle.itip_recur.specs.Given.{are_given}
use Rattle.itip_items.specs.KeyParts.{uid_of}
use Rattle.itip_items.specs.declared.item.Item.{Item}
use Rattle.itip_items.specs.declared.key.Key.{Key}
use Rattle.itip_items.specs.declared.key.Key.TheVariants.{Series, Instance, Range, Answer, Refresh}
use Rattle.itip_view.specs.Rows.{day_of, instance_day}
use Rattle.itip_view.specs.Standing.{is_live}
use Rattle.itip_view.specs.Window.{IsInWindow}
use Rattle.itip_view.specs.declared.days.RowDays.{RowDays}
use Rattle.itip_view.specs.declared.days.RowDays.TheVariants.{One, Any}
use Rattle.itip_view.specs.declared.window.Window.{Window}

-- items of these keys can govern rows: of a to-do as a whole, of an instance, and of an instance and all after it
abbrev pub is_of_rows : Key → Bool
is_of_rows (Series uid) = true
is_of_rows (Instance uid id) = true
is_of_rows (Range uid id) = true
is_of_rows (Answer uid id attendee) = false
is_of_rows (Refresh uid id attendee) = false

-- the item can govern a row: it has such a key, and is live
abbrev pub has_rows : Item → Bool
has_rows item = cond (is_of_rows item.key) (is_live item.kind) false

-- a to-do that doesn't recur has its row on its day; without a day, or if it recurs, its rows can fall on any day
abbrev pub days_from : Bool → Option ℤ → RowDays
days_from true day = Any
days_from false None = Any
days_from false (Some day) = One day

abbrev pub whole_days : Todo → RowDays
whole_days todo = days_from (are_given todo.rule todo.rdates todo.exdates todo.others) (day_of todo.start todo.due)

-- the rows of an instance and all after it fall on the days of the to-do as a whole
abbrev pub days_at : Key → Item → Option RowDays
days_at (Series uid) item = Some (whole_days item.todo)
days_at (Instance uid id) item = option_map One (instance_day id item.todo.start)
days_at (Range uid id) item = None
days_at (Answer uid id attendee) item = None
days_at (Refresh uid id attendee) item = None

-- the days on which the rows that need the item can fall
abbrev pub row_days : Item → Option RowDays
row_days item = cond (is_live item.kind) (days_at item.key item) None

-- these days meet a window
abbrev pub Meets : Window → RowDays → Type 0
Meets window (One day) = IsInWindow window.from window.to (Some day)
Meets window Any = Unit {0}

-- an item of the UID can have rows in the window
pub record HasRowsIn (heard : List Item) (window : Window) (uid : List ℕ) : Type 0 where
  pub item : Item
  pub is_heard : Contains heard item
  pub about : uid_of item.key ≡ uid
  pub days : RowDays
  pub days_are : row_days item ≡ Some days
  pub meets : Meets window days

-- an item that can have rows names the attendee of a key
pub record Names (item : Item) (key : List ℕ) : Type 0 where
  pub rows : has_rows item ≡ true
  pub line : Property
  pub there : Contains item.todo.attendees line
  pub named : attendee_key line.value ≡ key

-- an item of the UID names the attendee of a key
pub record NamesIn (heard : List Item) (key uid : List ℕ) : Type 0 where
  pub item : Item
  pub is_heard : Contains heard item
  pub about : uid_of item.key ≡ uid
  pub names : Names item key
