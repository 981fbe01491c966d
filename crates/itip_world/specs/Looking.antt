-- The answers to commands that ask desks, as they are seen, and leave them unchanged; and what a desk hears (our own rule). A script and
-- a stream have the same answers.
use Rattle.std.specs.Prelude.{◌≡◌, ◌⊎◌, ◌<◌, ◌≤◌, ◌^◌, ℕ, List, ◌++◌, length, Option, Some, Result, Ok, Err, slice_get}
use Rattle.std.specs.Option.{option_map}
use Rattle.itip_view.specs.declared.window.Window.{Window}
use Rattle.itip_view.specs.Rows.{AreTooMany}
use Rattle.itip_view.specs.Showing.{Shows, AreTooManyWhere}
use Rattle.itip_view.specs.declared.row.Row.{Row}
use Rattle.itip_items.specs.declared.item.Item.{Item}
use Rattle.itip_message.specs.declared.error.MessageRefusal.{MessageRefusal}
use Rattle.itip_message.specs.declared.error.ReadError.{ReadError}
use Rattle.itip_message.specs.declared.error.ReadError.TheVariants as read
use Rattle.itip_state.specs.Kept.{AreKept, AreMoved, HasEachOnce}
use Rattle.itip_desk.specs.Desk.{Shown, IsCarriedOn}
use Rattle.itip_desk.specs.DeskFile.{IsTold}
use Rattle.itip_desk.specs.Ticks.{TickStep}
use Rattle.itip_desk.specs.declared.refusal.Refusal.TheVariants.{Message, TicksSpent, TooManyRows, NoDesk, NoPacket, NoCommand}
use Rattle.itip_desk.specs.declared.refusal.Refusal.TheVariants.{LongScript, LongDelta, File}
use Rattle.itip_desk.specs.declared.refusal.Refusal.{Refusal}
use Rattle.itip_report.specs.Named.{IsReportOf, IsOfRows}
use Rattle.itip_report.specs.Resending.{IsResendOf}
use Rattle.itip_report.specs.NextSequence.{IsNext}
use Rattle.itip_report.specs.declared.report_name.ReportName.{ReportName}
use Rattle.itip_script.specs.Orders.{Order, takes, lists, lists_for, posts, arrives, reports, resends, asks_next, counts, malformed}
use Rattle.itip_streams.specs.Written.{AppendsFront, MovesOut}
use Rattle.itip_world.specs.Worlds.{StopsHearing, entries_shown}
use Rattle.itip_world.specs.Running.{Answer, refused, listed, listed_for, counted, reported, resent, next_is, answer_text, refusal_of}
use Rattle.itip_world.specs.Running.{AreListed, AreListedFor}
use Rattle.itip_world.specs.declared.answer.Heard.{Heard as HeardAs}
use Rattle.itip_world.specs.declared.stop.Cause.{Cause}
use Rattle.itip_world.specs.declared.stop.Cause.TheVariants as cause
use Rattle.itip_world.specs.declared.watch.Refused.{Refused as RefusedAs}

-- a command that asks a desk, and leaves it unchanged
abbrev pub OnlyAsks : Order → Type 0
OnlyAsks (takes desk text) = ⊥
OnlyAsks (lists desk) = Unit {0}
OnlyAsks (lists_for desk address) = Unit {0}
OnlyAsks (posts desk since) = ⊥
OnlyAsks (arrives packet desk) = ⊥
OnlyAsks (reports desk name) = Unit {0}
OnlyAsks (resends desk uid) = Unit {0}
OnlyAsks (asks_next desk uid) = Unit {0}
OnlyAsks (counts desk) = Unit {0}
OnlyAsks malformed = ⊥

-- one of these that doesn't ask for a list
abbrev pub AsksBriefly : Order → Type 0
AsksBriefly (takes desk text) = ⊥
AsksBriefly (lists desk) = ⊥
AsksBriefly (lists_for desk address) = ⊥
AsksBriefly (posts desk since) = ⊥
AsksBriefly (arrives packet desk) = ⊥
AsksBriefly (reports desk name) = Unit {0}
AsksBriefly (resends desk uid) = Unit {0}
AsksBriefly (asks_next desk uid) = Unit {0}
AsksBriefly (counts desk) = Unit {0}
AsksBriefly malformed = ⊥

-- a command that doesn't only ask
abbrev pub MovesSomething : Order → Type 0
MovesSomething order = OnlyAsks order → ⊥

-- The answer if desks are asked.
pub data Looks (window : Window) (desks : List Shown) : Order → Answer → Type 0 where
  lists_rows : (desk : ℕ) (shown : Shown) (rows : List Row)
      → slice_get desks desk ≡ Some shown → AreListed shown.kept window rows → Looks window desks (lists desk) (listed desk rows)
  lists_too_many : (desk : ℕ) (shown : Shown)
      → slice_get desks desk ≡ Some shown → AreTooMany shown.kept window → Looks window desks (lists desk) (refused TooManyRows)
  lists_no_desk : (desk : ℕ) → length desks ≤ desk → Looks window desks (lists desk) (refused (NoDesk desk))
  lists_rows_for : (desk : ℕ) (address : List ℕ) (shown : Shown) (rows : List Row)
      → slice_get desks desk ≡ Some shown → AreListedFor address shown.kept window rows
      → Looks window desks (lists_for desk address) (listed_for desk rows)
  lists_too_many_for : (desk : ℕ) (address : List ℕ) (shown : Shown)
      → slice_get desks desk ≡ Some shown → AreTooManyWhere (Shows address) shown.kept window
      → Looks window desks (lists_for desk address) (refused TooManyRows)
  lists_no_desk_for : (desk : ℕ) (address : List ℕ) → length desks ≤ desk
      → Looks window desks (lists_for desk address) (refused (NoDesk desk))
  counts_kept : (desk : ℕ) (shown : Shown)
      → slice_get desks desk ≡ Some shown → HasEachOnce shown.kept → Looks window desks (counts desk) (counted desk (entries_shown shown))
  counts_no_desk : (desk : ℕ) → length desks ≤ desk → Looks window desks (counts desk) (refused (NoDesk desk))
  reports_lines : (desk : ℕ) (named : ReportName) (shown : Shown) (lines : List (List ℕ))
      → slice_get desks desk ≡ Some shown → IsReportOf named shown.kept window lines
      → Looks window desks (reports desk named) (reported desk named lines)
  reports_too_many : (desk : ℕ) (named : ReportName) (shown : Shown)
      → IsOfRows named → slice_get desks desk ≡ Some shown → AreTooMany shown.kept window
      → Looks window desks (reports desk named) (refused TooManyRows)
  reports_no_desk : (desk : ℕ) (named : ReportName) → length desks ≤ desk → Looks window desks (reports desk named) (refused (NoDesk desk))
  resends_messages : (desk : ℕ) (uid : List ℕ) (shown : Shown) (bytes : Option (List ℕ))
      → slice_get desks desk ≡ Some shown → IsResendOf shown.kept uid bytes → Looks window desks (resends desk uid) (resent desk bytes)
  resends_no_desk : (desk : ℕ) (uid : List ℕ) → length desks ≤ desk → Looks window desks (resends desk uid) (refused (NoDesk desk))
  tells_next : (desk : ℕ) (uid : List ℕ) (shown : Shown) (sequence : Option ℕ)
      → slice_get desks desk ≡ Some shown → IsNext shown.kept uid sequence → Looks window desks (asks_next desk uid) (next_is desk sequence)
  tells_no_desk : (desk : ℕ) (uid : List ℕ) → length desks ≤ desk → Looks window desks (asks_next desk uid) (refused (NoDesk desk))

-- The answer to a question is appended to what is kept to be written, and a prefix of both is written; and why the question is refused,
-- if it is.
pub record LookReplies (window : Window) (order : Order) (desks : List Shown) (old new : Option (List ℕ)) (kept rest : List ℕ)
    (refused : Option RefusedAs) : Type 0 where
  pub answer : Answer
  pub looks : Looks window desks order answer
  pub moved : MovesOut old new (kept ++ answer_text answer) rest
  pub refusal_is : option_map (λ (r : RefusedAs). r.refusal) refused ≡ refusal_of answer

-- A prefix was written of what is kept, or of that and the answer to a question.
abbrev pub LookFront : Window → Order → List Shown → Option (List ℕ) → Option (List ℕ) → List ℕ → Type 0
LookFront window order desks old new kept =
    AppendsFront old new kept ⊎ ((answer : Answer) × Looks window desks order answer × AppendsFront old new (kept ++ answer_text answer))

-- A desk heard a batch: what it keeps, its tick and what moved when, whatever it heard before; and what is answered of that.
pub record HearsNow (was : Shown) (step : List Item) (is : Shown) (heard : HeardAs) : Type 0 where
  pub uids : List (List ℕ)
  pub moved : AreMoved uids was.kept step
  pub kept : AreKept is.kept (was.kept ++ step)
  pub rises : TickStep was.kept step was.tick is.tick
  pub carried : IsCarriedOn was is step
  pub tick_is : heard.tick ≡ is.tick
  pub changed_is : heard.changed ≡ length uids
  -- a tick is below 2 ^ 64
  pub fits : is.tick < 2 ^ 64
  -- a desk that its file tells completely is still one
  pub told : IsTold was → IsTold is

-- A desk heard the batch that some bytes tell.
pub record HearsOctets (Gives : List Item → Type 0) (was is : Shown) (heard : HeardAs) : Type 0 where
  pub batch : List Item
  pub gives : Gives batch
  pub hears : HearsNow was batch is heard

-- a cause for which the desk with this number doesn't hear a batch that some bytes tell
pub record StopsAt (Gives : List Item → Type 0) (number : ℕ) (shown : Shown) (why : Cause) : Type 0 where
  pub batch : List Item
  pub gives : Gives batch
  pub stops : StopsHearing number shown batch why

abbrev pub StopsFor : (List Item → Type 0) → (MessageRefusal → Type 0) → ℕ → Shown → Refusal → Type 0
StopsFor Gives Refuses number shown (Message refusal) = Refuses refusal
StopsFor Gives Refuses number shown (TicksSpent desk) = StopsAt Gives number shown (cause.Refused (TicksSpent desk))
StopsFor Gives Refuses number shown TooManyRows = ⊥
StopsFor Gives Refuses number shown (NoDesk desk) = ⊥
StopsFor Gives Refuses number shown (NoPacket packet) = ⊥
StopsFor Gives Refuses number shown NoCommand = ⊥
StopsFor Gives Refuses number shown LongScript = ⊥
StopsFor Gives Refuses number shown LongDelta = ⊥
StopsFor Gives Refuses number shown (File refusal) = ⊥

-- a cause for which the desk with this number doesn't hear some bytes: they are refused, or it can't hear what they tell
abbrev pub StopsOctets : (List Item → Type 0) → (MessageRefusal → Type 0) → ℕ → Shown → Cause → Type 0
StopsOctets Gives Refuses number shown cause.NoMemory = Unit {0}
StopsOctets Gives Refuses number shown (cause.Refused refusal) = StopsFor Gives Refuses number shown refusal

-- what comes of reading a batch
abbrev pub read_as : {B : Type 0} → Result B ReadError → Result B Cause
read_as (Ok batch) = Ok batch
read_as (Err read.NoMemory) = Err cause.NoMemory
read_as (Err (read.Refused refusal)) = Err (cause.Refused (Message refusal))
