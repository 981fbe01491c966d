-- The rows of one UID (our own form): what is known of its series item, where it may have rows, and what each place shows.
use Rattle.std.specs.Prelude.{◌≡◌, ◌↔◌, ℕ, List, ◌∷◌, Option, Some, None, map}
use denote.Ref.{Bor}
use Rattle.std.specs.List.{Contains}
use Rattle.std.specs.Option.{option_copied, option_to_list}
use Rattle.std.specs.List.Sorted.{IsStrictlySortedBy}
use Rattle.itip_moment.specs.Order.{moment_cmp}
use Rattle.itip_moment.specs.declared.moment.Moment.{Moment}
use Rattle.itip_todo.specs.Table.{attendee_key}
use Rattle.itip_todo.specs.Properties.{Property}
use Rattle.itip_recur.specs.Occurrences.{OccursIn}
use Rattle.itip_recur.specs.ToDoShape.{IsShape, IsSeriesOf}
use Rattle.itip_recur.specs.declared.series.Series.{Series}
use Rattle.itip_items.specs.declared.item.Item.{Item}
use Rattle.itip_items.specs.declared.key.Key.TheVariants as key
use Rattle.itip_state.specs.Kept.{IsBestOf}
use Rattle.itip_state.specs.OfUid.{UidPart}
use Rattle.itip_view.specs.Answers.{Asked, AreShown}
use Rattle.itip_view.specs.Rows.{HasFields, HasProgress, IsRow, AscendRows, moment_of}
use Rattle.itip_view.specs.Standing.{Stands, StandsBeside, NoneStands, IsLiveSeries}
use Rattle.itip_view.specs.declared.answers.Question.{Question}
use Rattle.itip_view.specs.declared.answers.Questions.{Questions}
use Rattle.itip_view.specs.declared.between.Between.{Between}
use Rattle.itip_view.specs.declared.row.Row.{Row}
use Rattle.itip_view.specs.declared.row.RowId.{RowId}
use Rattle.itip_view.specs.declared.whole.Whole.{Whole}
use Rattle.itip_view.specs.declared.window.Window.{Window}

-- the best series item of a UID, or none was heard
abbrev pub IsSeriesItem : List Item → List ℕ → Option Item → Type 0
IsSeriesItem heard uid = IsBestOf heard (key.Series uid)

-- an instance or range item stands beside the series item, or there is none
abbrev pub StandsBesideOf : Option Item → Item → Type 0
StandsBesideOf None item = Unit {0}
StandsBesideOf (Some series) item = StandsBeside series item

-- the answers by the attendee with this key to an instance, or to the to-do as a whole, from a sequence on
abbrev pub to_question : List ℕ → List ℕ → Question → Asked
to_question uid attendee question = record { key = key.Answer uid (option_copied question.id) attendee; since = question.since }

-- a single question
abbrev pub only : Option (Bor Moment) → ℕ → Questions
only id since = record { first = record { id = id; since = since }; second = None }

-- one about an instance, then one about the to-do as a whole
abbrev pub in_turn : Bor Moment → ℕ → ℕ → Questions
in_turn at own since = record { first = record { id = Some at; since = own }; second = Some (record { id = None; since = since }) }

abbrev pub listed : Questions → List Question
listed questions = questions.first ∷ option_to_list questions.second

-- where the answers by the attendee with this key are looked for: those to each of these questions
abbrev pub asked_of : List ℕ → Questions → List ℕ → List Asked
asked_of uid questions attendee = map (to_question uid attendee) (listed questions)

-- where the answers by the attendee of a line are looked for
abbrev pub asked_by : List ℕ → Questions → Property → List Asked
asked_by uid questions line = asked_of uid questions (attendee_key line.value)

-- a row with this identifier and these dates, and what else it shows of the item that governs it
pub record IsRowOf (heard : List Item) (item : Item) (uid : List ℕ) (id : RowId) (start due : Option Moment)
    (asked : Property → List Asked) (row : Row) : Type 0 where
  pub uid_is : row.uid ≡ uid
  pub id_is : row.id ≡ id
  pub fields : HasFields item row
  pub start_is : row.start ≡ start
  pub due_is : row.due ≡ due
  pub attendees : AreShown heard asked item.todo.attendees row.attendees
  pub progress : HasProgress row

-- a row of the UID at this moment, or without one
pub record IsRowAt (heard : List Item) (window : Window) (uid : List ℕ) (at : Option Moment) (row : Row) : Type 0 where
  pub is_row : IsRow heard window row
  pub uid_is : row.uid ≡ uid
  pub at_is : moment_of row.id ≡ at

-- the row there, or there is none
abbrev pub IsAnswerAt : List Item → Window → List ℕ → Option Moment → Option Row → Type 0
IsAnswerAt heard window uid at None = (row : Row) → IsRowAt heard window uid at row → ⊥
IsAnswerAt heard window uid at (Some row) = IsRowAt heard window uid at row

-- the live series item of a UID and how it recurs, or no series item is live
abbrev pub IsWhole : List Item → List ℕ → Option Whole → Type 0
IsWhole heard uid None = (item : Item) → ¬ IsLiveSeries heard uid item
IsWhole heard uid (Some whole) = IsLiveSeries heard uid whole.item.now × IsShape whole.item.now.todo whole.shape

-- the live series item of a UID occurs at the moment, in the window
pub record IsOccurrence (heard : List Item) (window : Window) (uid : List ℕ) (at : Moment) : Type 0 where
  pub item : Item
  pub series : Series
  pub live : IsLiveSeries heard uid item
  pub repeats : IsSeriesOf item.todo series
  pub occurs : OccursIn series window.from window.to at

-- the moments are the occurrences in the window
abbrev pub AreOccurrencesOf : List Item → Window → List ℕ → List Moment → Type 0
AreOccurrencesOf heard window uid moments = (at : Moment) → Contains moments at ↔ IsOccurrence heard window uid at

-- what governs where no instance item stands: the live series item of the UID, or a range item; `None` only if nothing occurs in
-- the window
abbrev pub IsBetween : UidPart → Window → Option Between → Type 0
IsBetween part window None = (at : Moment) → ¬ IsOccurrence part.items window part.uid at
IsBetween part window (Some between) = IsLiveSeries part.items part.uid between.series.item.now × (between.ranges ≡ part)

-- the moments at which there may be rows: those at which instance items stand, and the occurrences
pub record ArePlaces (heard : List Item) (window : Window) (uid : List ℕ) (moments : List Moment) : Type 0 where
  pub ascend : IsStrictlySortedBy moment_cmp moments
  pub instances : (at : Moment) (item : Item) → Stands heard uid at item → Contains moments at
  pub occurrences : (at : Moment) → IsOccurrence heard window uid at → Contains moments at
  pub each : (at : Moment) → Contains moments at → NoneStands heard uid at → IsOccurrence heard window uid at

-- the rows of a UID in their order, each once
pub record AreRowsOf (heard : List Item) (window : Window) (uid : List ℕ) (rows : List Row) : Type 0 where
  pub ascend : AscendRows rows
  pub each : (row : Row) → Contains rows row → IsRow heard window row × (row.uid ≡ uid)
  pub all : (row : Row) → IsRow heard window row → row.uid ≡ uid → Contains rows row
