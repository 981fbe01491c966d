-- What the words that read messages write, and what comes of them (docs/USING.md; our own rule).
use Rattle.std.specs.Prelude.{◌≡◌, ℕ, Bool, List, [], Option, Some, None, option_map, string_bytes}
use Rattle.std.specs.Option.{option_copied}
use Rattle.std.specs.Io.KnownBytes.{Appends}
use Rattle.itip_message.specs.declared.error.MessageRefusal.{MessageRefusal}
use Rattle.itip_moment.specs.declared.stamp.Stamp.{Stamp}
use Rattle.itip_streams.specs.Written.{AppendsFront, WritesOutput}
use Rattle.itip_streams.specs.declared.source_name.SourceName.{SourceName}
use Rattle.itip_todo.specs.declared.todo.Todo.{Todo}
use Rattle.itip_view.specs.ListText.{list_text}
use Rattle.itip_view.specs.Wanting.{Wants}
use Rattle.itip_view.specs.declared.row.Row.{Row}
use Rattle.itip_view.specs.declared.wanted.Wanted.{Wanted}
use Rattle.itip_view.specs.declared.window.Window.{Window}
use Rattle.itip_page.specs.Page.{page_markup}
use Rattle.itip_writing.specs.declared.errand.Errand.{Errand}
use Rattle.itip_inbox.specs.Compaction.{IsCompaction}
use Rattle.itip_inbox.specs.Csv.{csv_text}
use Rattle.itip_inbox.specs.Explaining.{Explains, IsExplained}
use Rattle.itip_inbox.specs.Json.{json_text}
use Rattle.itip_inbox.specs.News.{IsNews}
use Rattle.itip_inbox.specs.OfInbox.{WritesFront}
use Rattle.itip_inbox.specs.Reports.{IsReport}
use Rattle.itip_inbox.specs.Sending.{IsMessage, Sends}
use Rattle.itip_inbox.specs.TaskList.{IsTaskList}
use Rattle.itip_inbox.specs.declared.explained.Explained.{Explained}
use Rattle.itip_inbox.specs.declared.explained.Explained.TheVariants as explained
use Rattle.itip_inbox.specs.declared.sent.Sent.{Sent}
use Rattle.itip_inbox.specs.declared.sent.Sent.TheVariants as sent
use Rattle.itip_words.specs.Asked.{IsErrandOf}
use Rattle.itip_words.specs.declared.asked.Asked.{Asked}
use Rattle.itip_words.specs.declared.filter.Format.{Format}
use Rattle.itip_words.specs.declared.filter.Format.TheVariants as format
use Rattle.itip_words.specs.declared.filter.Listing.{Listing}
use Rattle.itip_words.specs.declared.filter.Written.{Written}
use Rattle.itip_words.specs.declared.filter.Written.TheVariants as written
use Rattle.itip_app.specs.declared.draft.Draft.{Draft}
use Rattle.itip_app.specs.declared.filters.Outcome.{Outcome}
use Rattle.itip_app.specs.declared.filters.Undone.TheVariants as undone

-- An output of which this holds was written, and it is known whether it tells of a refusal; nothing is lacking, and nothing was left
-- undone.
pub record Writes (Is : List ℕ → Bool → Type 0) (old new : Option (List ℕ)) (outcome : Outcome) : Type 0 where
  pub output : WritesOutput Is old new outcome.is_refused
  pub whole : outcome.lacking.items ≡ []
  pub is_done : outcome.undone ≡ None

-- After a fault: of each output of which this holds, a prefix was written.
abbrev pub WritesFrontOf : (List ℕ → Bool → Type 0) → Option (List ℕ) → Option (List ℕ) → Type 0
WritesFrontOf Is old new = (output : List ℕ) (said : Bool) → Is output said → AppendsFront old new output

-- ---- the list

-- the bytes of the rows of a window in a format
abbrev pub octets_in : Format → Window → List Row → List ℕ
octets_in format.Text window rows = list_text rows
octets_in format.Csv window rows = csv_text rows
octets_in format.Json window rows = json_text rows
octets_in (format.Html day) window rows = page_markup window day.number rows

-- the rows that `--attendee`, `--open` and `--due-before` ask for
pub record AreWantedBy (listing : Listing) (wanted : Wanted) : Type 0 where
  pub attendee : option_copied wanted.attendee ≡ option_map string_bytes listing.attendee
  pub is_open : wanted.is_open ≡ listing.is_open
  pub due : wanted.due_before ≡ listing.due_before

-- The task list of the inputs, of the rows of the window that are wanted.
pub record WritesList (octets : Window → List Row → List ℕ) (listing : Listing) (inputs : List (List ℕ)) (old new : Option (List ℕ))
    (outcome : Outcome) : Type 0
  where
    pub wanted : Wanted
    pub are_wanted : AreWantedBy listing wanted
    pub writes : Writes (IsTaskList octets (Wants wanted) inputs listing.window) old new outcome

-- After a fault: a prefix of it was written.
pub record WritesListFront (octets : Window → List Row → List ℕ) (listing : Listing) (inputs : List (List ℕ)) (old new : Option (List ℕ))
    : Type 0
  where
    pub wanted : Wanted
    pub are_wanted : AreWantedBy listing wanted
    pub front : WritesFrontOf (IsTaskList octets (Wants wanted) inputs listing.window) old new

-- ---- an explanation

-- the outcome of an explanation, which tells if no message is about the to-do
abbrev pub IsOutcomeOfExplained : Explained → Outcome → Type 0
IsOutcomeOfExplained (explained.Told is_refused) outcome =
    (outcome.is_refused ≡ is_refused) × (outcome.lacking.items ≡ []) × (outcome.undone ≡ None)
IsOutcomeOfExplained explained.Unknown outcome = outcome.undone ≡ Some undone.Unknown

pub record WritesExplanation (uid : List ℕ) (names : List SourceName) (inputs : List (List ℕ)) (old new : Option (List ℕ))
    (outcome : Outcome) : Type 0
  where
    pub told : Explained
    pub explains : Explains uid names inputs old new told
    pub outcome_is : IsOutcomeOfExplained told outcome

-- ---- a message

abbrev pub IsOutcomeOfSent : Sent → Outcome → Type 0
IsOutcomeOfSent (sent.Done is_refused lacking) outcome =
    (outcome.is_refused ≡ is_refused) × (outcome.lacking.items ≡ lacking.items) × (outcome.undone ≡ None)
IsOutcomeOfSent (sent.Undone cause) outcome = outcome.undone ≡ Some (undone.Unwritten cause)

pub record WritesErrand (asked : Asked) (todos : List Todo) (at : Stamp) (inputs : List (List ℕ)) (old new : Option (List ℕ))
    (outcome : Outcome) : Type 0
  where
    pub errand : Errand
    pub is_errand : IsErrandOf asked todos errand
    pub what : Sent
    pub sends : Sends errand at inputs old new what
    pub outcome_is : IsOutcomeOfSent what outcome

-- The message of an errand is written, or nothing if it can't be made, or if the draft can't be read as a request.
abbrev pub WritesMessage : Option MessageRefusal → Asked → List Todo → Stamp → List (List ℕ) → Option (List ℕ) → Option (List ℕ) →
    Outcome → Type 0
WritesMessage None asked todos at inputs old new outcome = WritesErrand asked todos at inputs old new outcome
WritesMessage (Some refusal) asked todos at inputs old new outcome =
    Appends old new [] × (outcome.undone ≡ Some (undone.Draft refusal))

-- After a fault: nothing was written, or a prefix of the message.
pub record WritesErrandFront (asked : Asked) (todos : List Todo) (at : Stamp) (inputs : List (List ℕ)) (old new : Option (List ℕ)) : Type 0
  where
    pub errand : Errand
    pub is_errand : IsErrandOf asked todos errand
    pub front : WritesFront (IsMessage errand at inputs) old new

-- The same; and nothing was written if the draft can't be read as a request.
abbrev pub WritesMessageFront : Option MessageRefusal → Asked → List Todo → Stamp → List (List ℕ) → Option (List ℕ) → Option (List ℕ) →
    Type 0
WritesMessageFront None asked todos at inputs old new = WritesErrandFront asked todos at inputs old new
WritesMessageFront (Some refusal) asked todos at inputs old new = Appends old new []

-- ---- all of them

-- What is asked for is written of these inputs, whose sources have these names; `known` are those that they are compared with.
abbrev pub Filters : Written → Draft → List SourceName → List (List ℕ) → List (List ℕ) → Option (List ℕ) → Option (List ℕ) → Outcome →
    Type 0
Filters (written.Compaction output) draft names known inputs old new outcome = Writes (IsCompaction inputs) old new outcome
Filters (written.List listing) draft names known inputs old new outcome =
    WritesList (octets_in listing.format) listing inputs old new outcome
Filters (written.Report reported) draft names known inputs old new outcome =
    Writes (IsReport reported.name inputs reported.window) old new outcome
Filters (written.News than) draft names known inputs old new outcome = Writes (IsNews known inputs) old new outcome
Filters (written.Explanation uid) draft names known inputs old new outcome = WritesExplanation uid names inputs old new outcome
Filters (written.Message asked at) draft names known inputs old new outcome =
    WritesMessage draft.refusal asked draft.todos.items at inputs old new outcome

-- After a fault: a prefix of it was written, or nothing.
abbrev pub FiltersFront : Written → Draft → List SourceName → List (List ℕ) → List (List ℕ) → Option (List ℕ) → Option (List ℕ) → Type 0
FiltersFront (written.Compaction output) draft names known inputs old new = WritesFrontOf (IsCompaction inputs) old new
FiltersFront (written.List listing) draft names known inputs old new = WritesListFront (octets_in listing.format) listing inputs old new
FiltersFront (written.Report reported) draft names known inputs old new =
    WritesFrontOf (IsReport reported.name inputs reported.window) old new
FiltersFront (written.News than) draft names known inputs old new = WritesFrontOf (IsNews known inputs) old new
FiltersFront (written.Explanation uid) draft names known inputs old new = WritesFront (IsExplained uid names inputs) old new
FiltersFront (written.Message asked at) draft names known inputs old new =
    WritesMessageFront draft.refusal asked draft.todos.items at inputs old new
