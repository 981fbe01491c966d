-- What a stream of commands writes, as a run of a machine over its commands, whose state is its desks as they are seen (our own format).
use Rattle.std.specs.Prelude.{◌≡◌, ◌⊎◌, ◌≤◌, ◌<◌, ℕ, Bool, false, List, [], ◌∷◌, ◌++◌, length, Option, Some, None, slice_get, slice_set}
use Rattle.std.specs.List.{flat_map, list_any}
use Rattle.std.specs.Option.{option_map}
use Rattle.std.specs.Io.KnownBytes.{Appends, Consumes, IsAtEnd, Keeps}
use Rattle.itip_view.specs.declared.window.Window.{Window}
use Rattle.itip_lines.specs.declared.error.LineCause.TheVariants.{TooLong}
use Rattle.itip_message.specs.Refusals.{of_lines}
use Rattle.itip_items.specs.declared.item.Item.{Item}
use Rattle.itip_desk.specs.DeltaFormat.{delta_octets, GivesBatch, ReadsDelta, RefusesDelta}
use Rattle.itip_message.specs.Message.{RefusesMessage}
use Rattle.itip_desk.specs.Desk.{Shown, IsDeltaOf}
use Rattle.itip_desk.specs.declared.refusal.Refusal.{Refusal}
use Rattle.itip_desk.specs.declared.refusal.Refusal.TheVariants.{Message, NoDesk, NoCommand, LongDelta, File}
use Rattle.itip_desk.specs.declared.refusal.FileRefusal.TheVariants.{Unwritten}
use Rattle.itip_script.specs.Orders.{Order}
use Rattle.itip_script.specs.Stream.{Wish, takes, arrives, posts, saves, asks, malformed, empty, Brought, whole, too_long, cut_off}
use Rattle.itip_script.specs.Stream.{brought, body_length, message_limit, delta_limit, ReadsWish, ReadsNothing}
use Rattle.itip_streams.specs.Written.{AppendsFront, MovesOut}
use Rattle.itip_world.specs.Looking.{Looks, HearsOctets, StopsFor, OnlyAsks}
use Rattle.itip_world.specs.Running.{Answer, refused, took, sent, reached, saved, answer_text, is_refusal, refusal_of}
use Rattle.itip_world.specs.declared.answer.Heard.{Heard as HeardAs}
use Rattle.itip_world.specs.declared.watch.Refused.{Refused as RefusedAs}

-- What is served: a wish, with what came of the bytes that belong to its line.
pub data Serving : Type 0 where
  take : ℕ → Brought → Serving
  arrive : ℕ → Brought → Serving
  post : ℕ → ℕ → Serving
  save : ℕ → List ℕ → Serving
  ask : Order → Serving
  nothing_known : Serving
  nothing_said : Serving

-- what is served for a wish, if these bytes follow its line
abbrev pub serving_of : Wish → List ℕ → Serving
serving_of (takes desk octets) behind = take desk (brought message_limit octets behind)
serving_of (arrives desk octets) behind = arrive desk (brought delta_limit octets behind)
serving_of (posts desk since) behind = post desk since
serving_of (saves desk file) behind = save desk file
serving_of (asks order) behind = ask order
serving_of (malformed octets) behind = nothing_known
serving_of empty behind = nothing_said

-- a wish that asks a desk leaves it unchanged
abbrev pub AsksOnly : Wish → Type 0
AsksOnly (takes desk octets) = Unit {0}
AsksOnly (arrives desk octets) = Unit {0}
AsksOnly (posts desk since) = Unit {0}
AsksOnly (saves desk file) = Unit {0}
AsksOnly (asks order) = OnlyAsks order
AsksOnly (malformed octets) = Unit {0}
AsksOnly empty = Unit {0}

-- why a message that is too long to hold is refused
abbrev pub long_message : Refusal
long_message = Message (of_lines (record { cause = TooLong; line = None }))

-- bytes for a desk are refused for this cause, or because there is no such desk
abbrev pub RefusesAt : List Shown → ℕ → Refusal → Answer → Type 0
RefusesAt desks desk refusal answer =
    ((desk < length desks) × (answer ≡ refused refusal)) ⊎ ((length desks ≤ desk) × (answer ≡ refused (NoDesk desk)))

-- The answer, and the desks after it. A line that says nothing has no answer. Nothing is known of a file: a desk is saved, or isn't.
pub data Serves (window : Window) (old : List Shown) : Serving → Option Answer → List Shown → Type 0 where
  takes_message : (desk : ℕ) (text : List ℕ) (was is : Shown) (heard : HeardAs) → slice_get old desk ≡ Some was
      → HearsOctets (GivesBatch text) was is heard
      → Serves window old (take desk (whole text)) (Some (took desk heard.tick heard.changed)) (slice_set old desk is)
  refuses_message : (desk : ℕ) (text : List ℕ) (was : Shown) (refusal : Refusal) → slice_get old desk ≡ Some was
      → StopsFor (GivesBatch text) (RefusesMessage text) desk was refusal
      → Serves window old (take desk (whole text)) (Some (refused refusal)) old
  long_take : (desk : ℕ) → desk < length old → Serves window old (take desk too_long) (Some (refused long_message)) old
  cut_take : (desk : ℕ) → Serves window old (take desk cut_off) (Some (refused NoCommand)) old
  takes_nowhere : (desk : ℕ) (body : Brought) → (body ≡ cut_off → ⊥) → length old ≤ desk
      → Serves window old (take desk body) (Some (refused (NoDesk desk))) old
  hears_delta : (desk : ℕ) (octets : List ℕ) (was is : Shown) (heard : HeardAs) → slice_get old desk ≡ Some was
      → HearsOctets (ReadsDelta octets) was is heard
      → Serves window old (arrive desk (whole octets)) (Some (reached desk heard.tick heard.changed)) (slice_set old desk is)
  refuses_delta : (desk : ℕ) (octets : List ℕ) (was : Shown) (refusal : Refusal) → slice_get old desk ≡ Some was
      → StopsFor (ReadsDelta octets) (RefusesDelta octets) desk was refusal
      → Serves window old (arrive desk (whole octets)) (Some (refused refusal)) old
  long_delta : (desk : ℕ) → desk < length old → Serves window old (arrive desk too_long) (Some (refused LongDelta)) old
  cut_delta : (desk : ℕ) → Serves window old (arrive desk cut_off) (Some (refused NoCommand)) old
  arrives_nowhere : (desk : ℕ) (body : Brought) → (body ≡ cut_off → ⊥) → length old ≤ desk
      → Serves window old (arrive desk body) (Some (refused (NoDesk desk))) old
  posts_delta : (desk since : ℕ) (was : Shown) (batch : List Item) → slice_get old desk ≡ Some was → IsDeltaOf was since batch
      → Serves window old (post desk since) (Some (sent desk was.tick (length batch) (delta_octets batch))) old
  posts_nothing : (desk since : ℕ) → length old ≤ desk → Serves window old (post desk since) (Some (refused (NoDesk desk))) old
  saves_desk : (desk : ℕ) (file : List ℕ) (was : Shown) → slice_get old desk ≡ Some was
      → Serves window old (save desk file) (Some (saved desk was.tick)) old
  saves_none : (desk : ℕ) (file : List ℕ) → desk < length old
      → Serves window old (save desk file) (Some (refused (File (Unwritten desk)))) old
  saves_nothing : (desk : ℕ) (file : List ℕ) → length old ≤ desk → Serves window old (save desk file) (Some (refused (NoDesk desk))) old
  looks_at : (order : Order) (answer : Answer) → OnlyAsks order → Looks window old order answer
      → Serves window old (ask order) (Some answer) old
  knows_nothing : Serves window old nothing_known (Some (refused NoCommand)) old
  says_nothing : Serves window old nothing_said None old

-- the text of an answer, if there is one
abbrev pub reply_text : Option Answer → List ℕ
reply_text None = []
reply_text (Some answer) = answer_text answer

abbrev pub refuses : Option Answer → Bool
refuses None = false
refuses (Some answer) = is_refusal answer

abbrev pub reply_refusal : Option Answer → Option Refusal
reply_refusal None = None
reply_refusal (Some answer) = refusal_of answer

-- A command as it was served: its line, the bytes after the line that belong to it, and its reply.
pub record Served : Type 0 where
  pub line : List ℕ
  pub behind : List ℕ
  pub wish : Wish
  pub reply : Option Answer

-- ---- one command

-- One command of a stream: it was read, and no byte after it, and all that was written is its reply.
pub record ServesOne (window : Window) (old new : List Shown) (input left output written : Option (List ℕ)) (refused : Bool) : Type 0 where
  pub one : Served
  pub reads : ReadsWish input left one.line one.behind one.wish
  pub serves : Serves window old (serving_of one.wish one.behind) one.reply new
  pub writes : Appends output written (reply_text one.reply)
  pub refusal_is : refused ≡ refuses one.reply

-- No byte was left, and nothing was written.
pub record EndsStream (old new : List Shown) (input left output written : Option (List ℕ)) : Type 0 where
  pub still : new ≡ old
  pub reads : ReadsNothing input left
  pub kept : Keeps output written

-- A command was read, and no byte after it; what was said before was written whole, followed by a prefix of its reply.
pub record FrontOfOne (window : Window) (old : List Shown) (input left output written : Option (List ℕ)) (before : List ℕ) : Type 0 where
  pub one : Served
  pub after : List Shown
  pub reads : ReadsWish input left one.line one.behind one.wish
  pub serves : Serves window old (serving_of one.wish one.behind) one.reply after
  pub front : List ℕ
  pub rest : List ℕ
  pub whole : reply_text one.reply ≡ front ++ rest
  pub appended : Appends output written (before ++ front)

-- after a fault nothing was written, or a prefix of the reply to the command that was read
abbrev pub ServesFront : Window → List Shown → Option (List ℕ) → Option (List ℕ) → Option (List ℕ) → Option (List ℕ) → Type 0
ServesFront window old input left output written =
    AppendsFront output written [] ⊎ FrontOfOne window old input left output written []

-- ---- what a line asks for, once the line is read

-- The bytes that belong to a line of this wish were read, or all that was left of them.
pub record ReadsBehind (wish : Wish) (input left : Option (List ℕ)) (behind : List ℕ) : Type 0 where
  pub consumed : Consumes input left behind
  pub all : (length behind ≡ body_length wish) ⊎ ((length behind < body_length wish) × IsAtEnd left)

-- A wish is done, its reply is appended to what is kept to be written, and a prefix of both is written; and why it is refused, if it is.
pub record Tells (window : Window) (wish : Wish) (old new : List Shown) (input left output written : Option (List ℕ)) (kept rest : List ℕ)
    (refused : Option RefusedAs) : Type 0 where
  pub behind : List ℕ
  pub reads : ReadsBehind wish input left behind
  pub reply : Option Answer
  pub serves : Serves window old (serving_of wish behind) reply new
  pub moved : MovesOut output written (kept ++ reply_text reply) rest
  pub refusal_is : option_map (λ (r : RefusedAs). r.refusal) refused ≡ reply_refusal reply

-- A wish is done, and all that was written is its reply.
pub record TellsOne (window : Window) (wish : Wish) (old new : List Shown) (input left output written : Option (List ℕ)) (refused : Bool)
    : Type 0 where
  pub behind : List ℕ
  pub reads : ReadsBehind wish input left behind
  pub reply : Option Answer
  pub serves : Serves window old (serving_of wish behind) reply new
  pub writes : Appends output written (reply_text reply)
  pub refusal_is : refused ≡ refuses reply

-- A prefix was written of what is kept and the reply to a wish.
pub record TellsSome (window : Window) (wish : Wish) (old : List Shown) (input left output written : Option (List ℕ)) (kept : List ℕ)
    : Type 0 where
  pub behind : List ℕ
  pub reads : ReadsBehind wish input left behind
  pub reply : Option Answer
  pub after : List Shown
  pub serves : Serves window old (serving_of wish behind) reply after
  pub appended : AppendsFront output written (kept ++ reply_text reply)

-- after a fault a prefix was written of what is kept, or of that and the reply to a wish
abbrev pub TellsFront : Window → Wish → List Shown → Option (List ℕ) → Option (List ℕ) → Option (List ℕ) → Option (List ℕ) → List ℕ → Type 0
TellsFront window wish old input left output written kept =
    AppendsFront output written kept ⊎ TellsSome window wish old input left output written kept

-- ---- a stream

abbrev pub output_of : List Served → List ℕ
output_of served = flat_map (λ (one : Served). reply_text one.reply) served

abbrev pub refusal_in : List Served → Bool
refusal_in served = list_any (λ (one : Served). refuses one.reply) served

-- A run, step by step: each command is the first of what those before it left, and is served by the desks that they left.
abbrev pub RunsStream : Window → Option (List ℕ) → List Shown → List Served → Option (List ℕ) → List Shown → Type 0
RunsStream window input old [] left new = (left ≡ input) × (new ≡ old)
RunsStream window input old (one ∷ others) left new =
    (mid : Option (List ℕ)) × (between : List Shown) × ReadsWish input mid one.line one.behind one.wish
    × Serves window old (serving_of one.wish one.behind) one.reply between × RunsStream window mid between others left new

-- A stream to its end: its commands were read to the last byte, and what was written is their replies.
pub record IsStream (window : Window) (desks : List Shown) (input left output written : Option (List ℕ)) (refusal : Bool) : Type 0 where
  pub served : List Served
  pub mid : Option (List ℕ)
  pub after : List Shown
  pub runs : RunsStream window input desks served mid after
  pub end : ReadsNothing mid left
  pub appended : Appends output written (output_of served)
  pub refusal_is : refusal ≡ refusal_in served

-- After a fault: a prefix of the commands was served, and their replies were written whole; or these and then a prefix of the reply to
-- the next, and no byte after that command was read.
pub record IsStreamFront (window : Window) (desks : List Shown) (input left output written : Option (List ℕ)) : Type 0 where
  pub served : List Served
  pub mid : Option (List ℕ)
  pub after : List Shown
  pub runs : RunsStream window input desks served mid after
  pub wrote : Appends output written (output_of served) ⊎ FrontOfOne window after mid left output written (output_of served)

-- Some commands were served, and their replies were written.
pub record StreamSoFar (window : Window) (desks now : List Shown) (input left output written : Option (List ℕ)) (refusal : Bool)
    : Type 0 where
  pub served : List Served
  pub runs : RunsStream window input desks served left now
  pub appended : Appends output written (output_of served)
  pub refusal_is : refusal ≡ refusal_in served
