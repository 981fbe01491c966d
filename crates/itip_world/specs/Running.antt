-- What a script writes, as a run of a machine over its commands, whose state is what each desk has heard and each packet tells (our own
-- format).
use Rattle.std.specs.Prelude.{◌≡◌, ℕ, ◌^◌, ◌<◌, ◌≤◌, ◌⊎◌, Bool, true, false, List, [], ◌∷◌, ◌++◌, length, map, Option, Some, None}
use Rattle.std.specs.Prelude.{slice_get}
use Rattle.std.specs.List.{flat_map, list_any}
use Rattle.std.specs.Option.{option_map}
use Rattle.std.specs.String.{string_bytes}
use Rattle.std.specs.Io.KnownBytes.{Appends}
use Rattle.itip_view.specs.declared.window.Window.{Window}
use Rattle.itip_view.specs.Rows.{AreRows, AreTooMany, row_limit}
use Rattle.itip_view.specs.Showing.{Shows, AreRowsWhere, AreTooManyWhere}
use Rattle.itip_view.specs.declared.row.Row.{Row}
use Rattle.itip_desk.specs.HeardSteps.{heard}
use Rattle.itip_desk.specs.Listed.{listed_text, listed_for_text}
use Rattle.itip_desk.specs.Refusals.{number_of, refused_text}
use Rattle.itip_desk.specs.declared.refusal.Refusal.{Refusal}
use Rattle.itip_desk.specs.declared.refusal.Refusal.TheVariants.{TicksSpent, TooManyRows, NoDesk, NoPacket, NoCommand}
use Rattle.itip_items.specs.declared.item.Item.{Item}
use Rattle.itip_world.specs.Worlds.{History, Past, no_past, EventStep, IsSpent, ShownWorld, IsWorldOf, CountsKept, desk_of, LacksOnlyPacket}
use Rattle.itip_world.specs.declared.event.Event.{Event}
use Rattle.itip_world.specs.declared.event.Event.TheVariants.{Deliver, Post, Arrive}
use Rattle.itip_world.specs.declared.event.Outcome.{Outcome}
use Rattle.itip_world.specs.declared.event.Outcome.TheVariants.{Heard, Posted, Refused}
use Rattle.itip_report.specs.Named.{IsReportOf, IsOfRows}
use Rattle.itip_report.specs.Resending.{IsResendOf}
use Rattle.itip_report.specs.NextSequence.{IsNext}
use Rattle.itip_report.specs.declared.report_name.ReportName.{ReportName}
use Rattle.itip_world.specs.declared.answer.Answer.{Answer as Given}
use Rattle.itip_world.specs.declared.answer.Answer.TheVariants as given
use Rattle.itip_world.specs.declared.watch.Refused.{Refused as RefusedAs}
use Rattle.itip_script.specs.Orders.{Order, takes, lists, lists_for, posts, arrives, reports, resends, asks_next, counts, malformed}
use Rattle.itip_world.specs.AnswerTexts.{taken_text, posted_text, arrived_text, counted_text, reported_text, resent_text, next_text}
use Rattle.itip_world.specs.AnswerTexts.{sent_text, reached_text, saved_text}
use Rattle.itip_script.specs.Script.{orders_of}
use Rattle.itip_streams.specs.Written.{AppendsFront, MovesOut}

-- The answer to a command.
pub data Answer : Type 0 where
  refused : Refusal → Answer
  -- the desk took a message, its tick then, and how many UIDs changed
  took : ℕ → ℕ → ℕ → Answer
  -- the number of a packet, and how many items it has
  posted : ℕ → ℕ → Answer
  -- a packet arrived at a desk, its tick then, and how many UIDs changed
  arrived : ℕ → ℕ → ℕ → ℕ → Answer
  -- the rows of the list of a desk
  listed : ℕ → List Row → Answer
  -- the rows of the list of a desk that show an attendee
  listed_for : ℕ → List Row → Answer
  -- how many items a desk keeps
  counted : ℕ → ℕ → Answer
  -- the lines of a report of a desk
  reported : ℕ → ReportName → List (List ℕ) → Answer
  -- what a desk sends again for a UID, or that there is nothing to send
  resent : ℕ → Option (List ℕ) → Answer
  -- the next sequence of a UID at a desk, or that none is left
  next_is : ℕ → Option ℕ → Answer
  -- what a desk posts to a stream: its tick, how many items there are, and their bytes
  sent : ℕ → ℕ → ℕ → List ℕ → Answer
  -- a delta reached a desk, its tick then, and how many UIDs changed
  reached : ℕ → ℕ → ℕ → Answer
  -- a desk was saved at a tick
  saved : ℕ → ℕ → Answer

abbrev pub answer_text : Answer → List ℕ
answer_text (refused refusal) = refused_text (number_of refusal)
answer_text (took desk tick changed) = taken_text desk tick changed
answer_text (posted packet items) = posted_text packet items
answer_text (arrived packet desk tick changed) = arrived_text packet desk tick changed
answer_text (listed desk rows) = listed_text desk rows
answer_text (listed_for desk rows) = listed_for_text desk rows
answer_text (counted desk entries) = counted_text desk entries
answer_text (reported desk named lines) = reported_text desk named lines
answer_text (resent desk bytes) = resent_text desk bytes
answer_text (next_is desk sequence) = next_text desk sequence
answer_text (sent desk tick items octets) = sent_text desk tick items octets
answer_text (reached desk tick changed) = reached_text desk tick changed
answer_text (saved desk tick) = saved_text desk tick

abbrev pub is_refusal : Answer → Bool
is_refusal (refused refusal) = true
is_refusal (took desk tick changed) = false
is_refusal (posted packet items) = false
is_refusal (arrived packet desk tick changed) = false
is_refusal (listed desk rows) = false
is_refusal (listed_for desk rows) = false
is_refusal (counted desk entries) = false
is_refusal (reported desk named lines) = false
is_refusal (resent desk bytes) = false
is_refusal (next_is desk sequence) = false
is_refusal (sent desk tick items octets) = false
is_refusal (reached desk tick changed) = false
is_refusal (saved desk tick) = false

-- why a command was refused, if it was
abbrev pub refusal_of : Answer → Option Refusal
refusal_of (refused refusal) = Some refusal
refusal_of (took desk tick changed) = None
refusal_of (posted packet items) = None
refusal_of (arrived packet desk tick changed) = None
refusal_of (listed desk rows) = None
refusal_of (listed_for desk rows) = None
refusal_of (counted desk entries) = None
refusal_of (reported desk named lines) = None
refusal_of (resent desk bytes) = None
refusal_of (next_is desk sequence) = None
refusal_of (sent desk tick items octets) = None
refusal_of (reached desk tick changed) = None
refusal_of (saved desk tick) = None

-- an answer of the program
abbrev pub answer_of : Given → Answer
answer_of (given.Refused refusal) = refused refusal
answer_of (given.TooMany most) = refused TooManyRows
answer_of (given.Took desk heard) = took desk heard.tick heard.changed
answer_of (given.Posted packet items) = posted packet items
answer_of (given.Arrived packet desk heard) = arrived packet desk heard.tick heard.changed
answer_of (given.Counted desk entries) = counted desk entries
answer_of (given.Reported desk named lines) = reported desk named (map string_bytes lines.items)
answer_of (given.Resent desk messages) = resent desk (option_map (λ bytes. bytes.items) messages)
answer_of (given.Next desk sequence) = next_is desk sequence
answer_of (given.Sent desk tick items octets) = sent desk tick items octets.items
answer_of (given.Reached desk heard) = reached desk heard.tick heard.changed
answer_of (given.Saved desk tick) = saved desk tick

-- the event that a command asks of a world
abbrev pub event_of : Order → Option Event
event_of (takes desk text) = Some (Deliver desk text)
event_of (posts desk since) = Some (Post desk since)
event_of (arrives packet desk) = Some (Arrive packet desk)
event_of (lists desk) = None
event_of (lists_for desk address) = None
event_of (reports desk name) = None
event_of (resends desk uid) = None
event_of (asks_next desk uid) = None
event_of (counts desk) = None
event_of malformed = None

-- the answer if a desk has heard a message or a packet
abbrev pub heard_at : Event → ℕ → ℕ → Answer
heard_at (Deliver desk bytes) tick changed = took desk tick changed
heard_at (Post desk since) tick changed = took desk tick changed
heard_at (Arrive packet desk) tick changed = arrived packet desk tick changed

-- the answer to an event with this outcome
abbrev pub answer_to : Event → Outcome → Answer
answer_to event (Heard tick changed) = heard_at event tick changed
answer_to event (Posted packet items) = posted packet items
answer_to event (Refused refusal) = refused refusal

-- a tick is below 2 ^ 64
abbrev pub HasTick : Outcome → Type 0
HasTick (Heard tick changed) = tick < 2 ^ 64
HasTick (Posted packet items) = Unit {0}
HasTick (Refused refusal) = Unit {0}

-- the rows of the window, if there are no more than the limit
pub record AreListed (heard : List Item) (window : Window) (rows : List Row) : Type 0 where
  pub are_rows : AreRows heard window rows
  pub few : length rows ≤ row_limit

-- the rows of the window that show the attendee with this address, if there are no more than the limit
pub record AreListedFor (address : List ℕ) (heard : List Item) (window : Window) (rows : List Row) : Type 0 where
  pub are_rows : AreRowsWhere (Shows address) heard window rows
  pub few : length rows ≤ row_limit

-- The answer if an event is asked of a world, and what has happened after it.
pub data Happens (old : Past) (event : Event) : Answer → Past → Type 0 where
  is_done : (outcome : Outcome) (new : Past) → EventStep old event outcome new → HasTick outcome
      → Happens old event (answer_to event outcome) new
  at_no_desk : length old.histories ≤ desk_of event → Happens old event (refused (NoDesk (desk_of event))) old
  of_no_packet : (packet : ℕ) → LacksOnlyPacket (length old.histories) (length old.packets) event packet
      → Happens old event (refused (NoPacket packet)) old
  spends_ticks : IsSpent old event → Happens old event (refused (TicksSpent (desk_of event))) old

-- One command: what happened before, its answer, and what has happened after it.
pub data Step (window : Window) (old : Past) : Order → Answer → Past → Type 0 where
  happens : (order : Order) (event : Event) (answer : Answer) (new : Past)
      → event_of order ≡ Some event → Happens old event answer new → Step window old order answer new
  lists_rows : (desk : ℕ) (history : History) (rows : List Row)
      → slice_get old.histories desk ≡ Some history → AreListed (heard history.steps) window rows
      → Step window old (lists desk) (listed desk rows) old
  lists_too_many : (desk : ℕ) (history : History)
      → slice_get old.histories desk ≡ Some history → AreTooMany (heard history.steps) window
      → Step window old (lists desk) (refused TooManyRows) old
  lists_no_desk : (desk : ℕ) → length old.histories ≤ desk → Step window old (lists desk) (refused (NoDesk desk)) old
  lists_rows_for : (desk : ℕ) (address : List ℕ) (history : History) (rows : List Row)
      → slice_get old.histories desk ≡ Some history → AreListedFor address (heard history.steps) window rows
      → Step window old (lists_for desk address) (listed_for desk rows) old
  lists_too_many_for : (desk : ℕ) (address : List ℕ) (history : History)
      → slice_get old.histories desk ≡ Some history → AreTooManyWhere (Shows address) (heard history.steps) window
      → Step window old (lists_for desk address) (refused TooManyRows) old
  lists_no_desk_for : (desk : ℕ) (address : List ℕ) → length old.histories ≤ desk
      → Step window old (lists_for desk address) (refused (NoDesk desk)) old
  counts_kept : (desk : ℕ) (history : History) (count : ℕ)
      → slice_get old.histories desk ≡ Some history → CountsKept (heard history.steps) count
      → Step window old (counts desk) (counted desk count) old
  counts_no_desk : (desk : ℕ) → length old.histories ≤ desk → Step window old (counts desk) (refused (NoDesk desk)) old
  reports_lines : (desk : ℕ) (named : ReportName) (history : History) (lines : List (List ℕ))
      → slice_get old.histories desk ≡ Some history → IsReportOf named (heard history.steps) window lines
      → Step window old (reports desk named) (reported desk named lines) old
  reports_too_many : (desk : ℕ) (named : ReportName) (history : History)
      → IsOfRows named → slice_get old.histories desk ≡ Some history → AreTooMany (heard history.steps) window
      → Step window old (reports desk named) (refused TooManyRows) old
  reports_no_desk : (desk : ℕ) (named : ReportName) → length old.histories ≤ desk
      → Step window old (reports desk named) (refused (NoDesk desk)) old
  resends_messages : (desk : ℕ) (uid : List ℕ) (history : History) (bytes : Option (List ℕ))
      → slice_get old.histories desk ≡ Some history → IsResendOf (heard history.steps) uid bytes
      → Step window old (resends desk uid) (resent desk bytes) old
  resends_no_desk : (desk : ℕ) (uid : List ℕ) → length old.histories ≤ desk → Step window old (resends desk uid) (refused (NoDesk desk)) old
  tells_next : (desk : ℕ) (uid : List ℕ) (history : History) (sequence : Option ℕ)
      → slice_get old.histories desk ≡ Some history → IsNext (heard history.steps) uid sequence
      → Step window old (asks_next desk uid) (next_is desk sequence) old
  tells_no_desk : (desk : ℕ) (uid : List ℕ) → length old.histories ≤ desk → Step window old (asks_next desk uid) (refused (NoDesk desk)) old
  is_refused : Step window old malformed (refused NoCommand) old

-- the answers to commands, one after another
abbrev pub Runs : Window → Past → List Order → List Answer → Past → Type 0
Runs window old [] [] new = new ≡ old
Runs window old (order ∷ orders) (answer ∷ answers) new =
    (mid : Past) × Step window old order answer mid × Runs window mid orders answers new
Runs window old [] (answer ∷ answers) new = ⊥
Runs window old (order ∷ orders) [] new = ⊥

-- What commands write over desks that have heard nothing, and whether one of them is refused.
pub record Writes (window : Window) (desks : ℕ) (orders : List Order) (output : List ℕ) (refusal : Bool) : Type 0 where
  pub answers : List Answer
  pub past : Past
  pub runs : Runs window (no_past desks) orders answers past
  pub output_is : output ≡ flat_map answer_text answers
  pub refusal_is : refusal ≡ list_any is_refusal answers

-- A prefix was written of what a prefix of the commands writes.
pub record WritesSome (window : Window) (desks : ℕ) (old new : Option (List ℕ)) (orders : List Order) : Type 0 where
  pub done : List Order
  pub left : List Order
  pub whole : orders ≡ done ++ left
  pub output : List ℕ
  pub refusal : Bool
  pub writes : Writes window desks done output refusal
  pub appended : AppendsFront old new output

-- What a script writes. One over the limit is refused as a whole.
abbrev pub IsOutput : Window → ℕ → List ℕ → List ℕ → Bool → Type 0
IsOutput window desks script output refusal =
    ((length script ≤ 16777216) × Writes window desks (orders_of script) output refusal)
    ⊎ ((16777216 < length script) × (output ≡ refused_text 61) × (refusal ≡ true))

-- A prefix was written of what a script writes or, if it wasn't run to its end, of what the commands that were done write.
abbrev pub WritesRunFront : Window → ℕ → Option (List ℕ) → Option (List ℕ) → List ℕ → Type 0
WritesRunFront window desks old new script =
    ((length script ≤ 16777216) × WritesSome window desks old new (orders_of script))
    ⊎ ((16777216 < length script) × AppendsFront old new (refused_text 61))

-- one command, from what happened before it to the world after it
pub record AnswersOne (window : Window) (past : Past) (order : Order) (answer : Answer) (new : ShownWorld) : Type 0 where
  pub more : Past
  pub step : Step window past order answer more
  pub world_is : IsWorldOf more new

-- the answer to an order, whatever happened to bring about the world before it
abbrev pub Answers : Window → Order → ShownWorld → Answer → ShownWorld → Type 0
Answers window order old answer new = (past : Past) → IsWorldOf past old → AnswersOne window past order answer new

-- A run over some commands: what they write is what was written and what is kept to be written.
pub record RunsSoFar (window : Window) (desks : ℕ) (old new : Option (List ℕ)) (orders done left : List Order)
    (world : ShownWorld) (kept : List ℕ) (refusal : Bool) : Type 0 where
  pub whole : orders ≡ done ++ left
  pub answers : List Answer
  pub past : Past
  pub runs : Runs window (no_past desks) done answers past
  pub world_is : IsWorldOf past world
  pub refusal_is : refusal ≡ list_any is_refusal answers
  pub written : List ℕ
  pub output_is : flat_map answer_text answers ≡ written ++ kept
  pub appended : Appends old new written

-- the text of an answer is appended to what was kept, and this is why the command was refused, if it was
pub record IsTold (answer : Answer) (kept told : List ℕ) (refused : Option RefusedAs) : Type 0 where
  pub text_is : told ≡ kept ++ answer_text answer
  pub refusal_is : option_map (λ (r : RefusedAs). r.refusal) refused ≡ refusal_of answer

-- The answer to a command is appended to what is kept to be written, and a prefix of both is written; and why the command is refused, if
-- it is.
pub record Replies (window : Window) (order : Order) (world after : ShownWorld) (old new : Option (List ℕ)) (kept rest : List ℕ)
    (refused : Option RefusedAs) : Type 0 where
  pub answer : Answer
  pub answers : Answers window order world answer after
  pub moved : MovesOut old new (kept ++ answer_text answer) rest
  pub refusal_is : option_map (λ (r : RefusedAs). r.refusal) refused ≡ refusal_of answer

-- A prefix was written of what is kept and the answer to a command.
pub record WritesAnswer (window : Window) (order : Order) (world : ShownWorld) (old new : Option (List ℕ)) (kept : List ℕ) : Type 0 where
  pub answer : Answer
  pub after : ShownWorld
  pub answers : Answers window order world answer after
  pub appended : AppendsFront old new (kept ++ answer_text answer)

-- A prefix was written of what is kept, or of that and the answer to a command.
abbrev pub RepliesFront : Window → Order → ShownWorld → Option (List ℕ) → Option (List ℕ) → List ℕ → Type 0
RepliesFront window order world old new kept = AppendsFront old new kept ⊎ WritesAnswer window order world old new kept
