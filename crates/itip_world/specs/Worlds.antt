-- What desks have heard and posted after a list of events, and what came of each (our own rule).
use Rattle.std.specs.Prelude.{◌≡◌, ℕ, zero, suc, ◌^◌, ◌-◌, ◌<◌, List, [], ◌∷◌, ◌++◌, ◌≤◌, length, take, min, replicate, Some, slice_get}
use Rattle.itip_message.specs.Message.{ReadsMessage, RefusesMessage}
use Rattle.itip_message.specs.declared.error.MessageRefusal.{MessageRefusal}
use Rattle.itip_items.specs.declared.item.Item.{Item}
use Rattle.itip_state.specs.Kept.{AreKept, SameItems, AreMoved, Moves, HasEachOnce}
use Rattle.itip_desk.specs.HeardSteps.{heard}
use Rattle.itip_desk.specs.Ticks.{Ticks, TellsAfter}
use Rattle.itip_desk.specs.Desk.{Shown, IsDeskOf}
use Rattle.itip_desk.specs.Octets.{AscendOctets}
use Rattle.itip_desk.specs.declared.refusal.Refusal.{Refusal}
use Rattle.itip_desk.specs.declared.refusal.Refusal.TheVariants.{Message, TicksSpent, TooManyRows, NoDesk, NoPacket, NoCommand, LongScript}
use Rattle.itip_desk.specs.declared.refusal.Refusal.TheVariants.{LongDelta, File}
use Rattle.itip_desk.specs.DeltaFormat.{delta_octets}
use Rattle.itip_world.specs.declared.event.Event.{Event}
use Rattle.itip_world.specs.declared.event.Event.TheVariants.{Deliver, Post, Arrive}
use Rattle.itip_world.specs.declared.event.Outcome.{Outcome}
use Rattle.itip_world.specs.declared.event.Outcome.TheVariants.{Heard, Posted, Refused}
use Rattle.itip_world.specs.declared.stop.Cause.{Cause}
use Rattle.itip_world.specs.declared.stop.Cause.TheVariants as cause

-- the tick at which a desk began, and the steps that it has heard since
pub record History : Type 0 where
  pub start : ℕ
  pub steps : List (List Item)

-- nothing heard yet, from this tick
abbrev pub history_from : ℕ → History
history_from tick = record { start = tick; steps = [] }

-- one more step heard
abbrev pub with_one_more : History → List Item → History
with_one_more history step = record { start = history.start; steps = history.steps ++ step ∷ [] }

-- the histories of desks, numbered from 0
abbrev pub Histories : Type 0
Histories = List History

-- this many desks that have heard nothing, from this tick
abbrev pub histories_from : ℕ → ℕ → Histories
histories_from desks tick = replicate desks (history_from tick)

-- a desk hears one more step
abbrev pub with_step : Histories → ℕ → List Item → Histories
with_step [] desk step = []
with_step (history ∷ histories) zero step = with_one_more history step ∷ histories
with_step (history ∷ histories) (suc desk) step = history ∷ with_step histories desk step

-- What happened: what each desk has heard, and all that each packet tells. Packets are numbered from 0.
pub record Past : Type 0 where
  pub histories : Histories
  pub packets : List (List Item)

-- this many desks begin at this tick, and nothing has happened yet
abbrev pub past_from : ℕ → ℕ → Past
past_from desks tick = record { histories = histories_from desks tick; packets = [] }

-- nothing has happened yet, from tick 0
abbrev pub no_past : ℕ → Past
no_past desks = past_from desks 0

abbrev pub past_with_step : Past → ℕ → List Item → Past
past_with_step past desk step = record { histories = with_step past.histories desk step; packets = past.packets }

abbrev pub past_with_packet : Past → List Item → Past
past_with_packet past packet = record { histories = past.histories; packets = past.packets ++ packet ∷ [] }

-- A desk with this history hears a step of these items: its tick afterwards, and the UIDs that move.
pub record Takes (history : History) (step : List Item) (uids : List (List ℕ)) (tick : ℕ) : Type 0 where
  pub moved : AreMoved uids (heard history.steps) step
  pub ticks : Ticks [] history.start (history.steps ++ step ∷ []) tick

-- What a text adds to a desk with this history, and what comes of it: the items of the message, or nothing if it is refused.
pub data Hears (history : History) (bytes : List ℕ) (step : List Item) : Outcome → Type 0 where
  reads : (items : List Item) (uids : List (List ℕ)) (tick : ℕ) → ReadsMessage bytes items → SameItems step items
      → Takes history step uids tick → Hears history bytes step (Heard tick (length uids))
  refuses : (refusal : MessageRefusal) → RefusesMessage bytes refusal → step ≡ [] → Hears history bytes step (Refused (Message refusal))

-- A packet tells everything that a desk has heard of the UIDs that moved after this tick.
abbrev pub IsPacketOf : History → ℕ → List Item → Type 0
IsPacketOf history since packet = TellsAfter history.start history.steps since packet

-- what is kept of a packet, by canonical bytes, each once
pub record IsBatchOf (packet batch : List Item) : Type 0 where
  pub ascend : AscendOctets batch
  pub kept : AreKept batch packet

-- one event, and what came of it
pub data EventStep (old : Past) : Event → Outcome → Past → Type 0 where
  delivers : (desk : ℕ) (bytes : List ℕ) (history : History) (step : List Item) (outcome : Outcome)
      → slice_get old.histories desk ≡ Some history → Hears history bytes step outcome
      → EventStep old (Deliver desk bytes) outcome (past_with_step old desk step)
  posts : (desk since : ℕ) (history : History) (packet batch : List Item)
      → slice_get old.histories desk ≡ Some history → IsPacketOf history since packet → IsBatchOf packet batch
      → EventStep old (Post desk since) (Posted (length old.packets) (length batch)) (past_with_packet old packet)
  arrives : (packet desk : ℕ) (items : List Item) (history : History) (uids : List (List ℕ)) (tick : ℕ)
      → slice_get old.packets packet ≡ Some items → slice_get old.histories desk ≡ Some history → Takes history items uids tick
      → EventStep old (Arrive packet desk) (Heard tick (length uids)) (past_with_step old desk items)

-- an event would move a UID of a desk that is at the last tick
pub data IsSpent (old : Past) : Event → Type 0 where
  spends : (desk : ℕ) (bytes : List ℕ) (history : History) (items step : List Item) (uid : List ℕ)
      → slice_get old.histories desk ≡ Some history → ReadsMessage bytes items → SameItems step items
      → Ticks [] history.start history.steps (2 ^ 64 - 1) → Moves (heard history.steps) step uid
      → IsSpent old (Deliver desk bytes)
  spends_arriving : (packet desk : ℕ) (items : List Item) (history : History) (uid : List ℕ)
      → slice_get old.packets packet ≡ Some items → slice_get old.histories desk ≡ Some history
      → Ticks [] history.start history.steps (2 ^ 64 - 1) → Moves (heard history.steps) items uid
      → IsSpent old (Arrive packet desk)

-- these outcomes of these events, one after another
abbrev pub Runs : Past → List Event → List Outcome → Past → Type 0
Runs old [] [] new = new ≡ old
Runs old (event ∷ events) (outcome ∷ outcomes) new = (mid : Past) × EventStep old event outcome mid × Runs mid events outcomes new
Runs old [] (outcome ∷ outcomes) new = ⊥
Runs old (event ∷ events) [] new = ⊥

-- The number of items kept of what was heard, or the greatest 64-bit number if there are more.
pub record CountsKept (all : List Item) (count : ℕ) : Type 0 where
  pub kept : List Item
  pub once : HasEachOnce kept
  pub are_kept : AreKept kept all
  pub count_is : count ≡ min (length kept) (2 ^ 64 - 1)

-- the entries of a desk: how many items it shows
abbrev pub entries_shown : Shown → ℕ
entries_shown desk = min (length desk.kept) (2 ^ 64 - 1)

-- The desk is that of its history, and its entries are the number of items kept of all that it has heard.
pub record IsDeskAfter (history : History) (desk : Shown) : Type 0 where
  pub is : IsDeskOf history.steps history.start desk
  pub entries : CountsKept (heard history.steps) (entries_shown desk)

-- each desk is that of its history
abbrev pub AreDesksOf : Histories → List Shown → Type 0
AreDesksOf [] [] = Unit {0}
AreDesksOf [] (desk ∷ desks) = ⊥
AreDesksOf (history ∷ histories) [] = ⊥
AreDesksOf (history ∷ histories) (desk ∷ desks) = IsDeskAfter history desk × AreDesksOf histories desks

-- The bytes of a packet are those of what is kept of all that it tells.
pub record IsPacketText (packet : List Item) (octets : List ℕ) : Type 0 where
  pub batch : List Item
  pub batch_is : IsBatchOf packet batch
  pub octets_are : octets ≡ delta_octets batch

abbrev pub ArePacketTexts : List (List Item) → List (List ℕ) → Type 0
ArePacketTexts [] [] = Unit {0}
ArePacketTexts [] (octets ∷ texts) = ⊥
ArePacketTexts (packet ∷ packets) [] = ⊥
ArePacketTexts (packet ∷ packets) (octets ∷ texts) = IsPacketText packet octets × ArePacketTexts packets texts

-- What happened brings about these desks and packets.
pub record BringsAbout (past : Past) (desks : List Shown) (packets : List (List ℕ)) : Type 0 where
  pub desks_are : AreDesksOf past.histories desks
  pub packets_are : ArePacketTexts past.packets packets

-- A world as it is seen: desks and packets, each numbered from 0.
pub record ShownWorld : Type 0 where
  pub desks : List Shown
  pub packets : List (List ℕ)

-- the world without desks
abbrev pub empty_world : ShownWorld
empty_world = record { desks = []; packets = [] }

-- What happened brings about this world.
abbrev pub IsWorldOf : Past → ShownWorld → Type 0
IsWorldOf past world = BringsAbout past world.desks world.packets

-- Something happened that brought the world about.
abbrev pub HasPast : ShownWorld → Type 0
HasPast world = (past : Past) × IsWorldOf past world

-- The number of items that a desk keeps of all that it has heard.
pub record CountsKeptAt (past : Past) (desk count : ℕ) : Type 0 where
  pub history : History
  pub there : slice_get past.histories desk ≡ Some history
  pub counts : CountsKept (heard history.steps) count

-- the same, whatever happened to bring about this world
abbrev pub IsEntriesOf : ShownWorld → ℕ → ℕ → Type 0
IsEntriesOf world desk count = (past : Past) → IsWorldOf past world → CountsKeptAt past desk count

-- the desk that an event names
abbrev pub desk_of : Event → ℕ
desk_of (Deliver desk bytes) = desk
desk_of (Post desk since) = desk
desk_of (Arrive packet desk) = desk

-- An event names this packet, which doesn't exist among this many.
abbrev pub LacksPacket : ℕ → Event → ℕ → Type 0
LacksPacket packets (Deliver desk bytes) packet = ⊥
LacksPacket packets (Post desk since) packet = ⊥
LacksPacket packets (Arrive number desk) packet = (packet ≡ number) × (packets ≤ packet)

-- The desk exists, and this packet doesn't: a missing desk comes first.
abbrev pub LacksOnlyPacket : ℕ → ℕ → Event → ℕ → Type 0
LacksOnlyPacket desks packets event packet = (desk_of event < desks) × LacksPacket packets event packet

-- an event brings something to this desk
abbrev pub ComesTo : Event → ℕ → Type 0
ComesTo (Deliver desk bytes) number = number ≡ desk
ComesTo (Post desk since) number = ⊥
ComesTo (Arrive packet desk) number = number ≡ desk

-- Each desk to which an event brings nothing is unchanged.
abbrev pub OthersStay : ShownWorld → Event → ShownWorld → Type 0
OthersStay old event new = (number : ℕ) → (¬ ComesTo event number) → slice_get new.desks number ≡ slice_get old.desks number

-- the world after some events with these outcomes
pub record IsWorldAfter (old : Past) (events : List Event) (world : ShownWorld) (outcomes : List Outcome) : Type 0 where
  pub past : Past
  pub runs : Runs old events outcomes past
  pub world_is : IsWorldOf past world

-- one event with this outcome brings about a world: one more step of what happened
pub record StepsWorld (past : Past) (event : Event) (outcome : Outcome) (new : ShownWorld) : Type 0 where
  pub more : Past
  pub step : EventStep past event outcome more
  pub world_is : IsWorldOf more new

-- the same from a world, whatever happened to bring it about
abbrev pub Steps : ShownWorld → Event → Outcome → ShownWorld → Type 0
Steps old event outcome new = (past : Past) → IsWorldOf past old → StepsWorld past event outcome new

-- an event would move a UID at the last tick, whatever happened to bring about this world
abbrev pub Spends : ShownWorld → Event → Type 0
Spends world event = (past : Past) → IsWorldOf past world → IsSpent past event

-- A world refuses an event: it names a desk or a packet that doesn't exist, or would move a UID at the last tick of its desk.
abbrev pub RefusesEvent : ShownWorld → Event → Refusal → Type 0
RefusesEvent world event (NoDesk desk) = (desk ≡ desk_of event) × (length world.desks ≤ desk)
RefusesEvent world event (NoPacket packet) = LacksOnlyPacket (length world.desks) (length world.packets) event packet
RefusesEvent world event (TicksSpent desk) = (desk ≡ desk_of event) × Spends world event
RefusesEvent world event (Message refusal) = ⊥
RefusesEvent world event TooManyRows = ⊥
RefusesEvent world event NoCommand = ⊥
RefusesEvent world event LongScript = ⊥
RefusesEvent world event LongDelta = ⊥
RefusesEvent world event (File refusal) = ⊥

-- a cause for which an event is not done
abbrev pub StopsFor : ShownWorld → Event → Cause → Type 0
StopsFor world event cause.NoMemory = Unit {0}
StopsFor world event (cause.Refused refusal) = RefusesEvent world event refusal

-- a desk hears a batch, and what comes of it
pub record HearsBatch (was : Shown) (batch : List Item) (is : Shown) (outcome : Outcome) : Type 0 where
  pub uids : List (List ℕ)
  pub moved : AreMoved uids was.kept batch
  pub once : HasEachOnce is.kept
  pub step : (steps : List (List Item)) (start : ℕ) → IsDeskOf steps start was → IsDeskOf (steps ++ batch ∷ []) start is
  pub outcome_is : outcome ≡ Heard is.tick (length uids)

-- a desk is at the last tick, and a batch would move a UID there
pub record IsAtLastTick (desk : Shown) (batch : List Item) : Type 0 where
  pub last : desk.tick ≡ 2 ^ 64 - 1
  pub uid : List ℕ
  pub moves : Moves desk.kept batch uid

-- a cause for which the desk with this number doesn't hear a batch
abbrev pub StopsHearing : ℕ → Shown → List Item → Cause → Type 0
StopsHearing number shown batch cause.NoMemory = Unit {0}
StopsHearing number shown batch (cause.Refused (TicksSpent desk)) = (desk ≡ number) × IsAtLastTick shown batch
StopsHearing number shown batch (cause.Refused (NoDesk desk)) = ⊥
StopsHearing number shown batch (cause.Refused (NoPacket packet)) = ⊥
StopsHearing number shown batch (cause.Refused (Message refusal)) = ⊥
StopsHearing number shown batch (cause.Refused TooManyRows) = ⊥
StopsHearing number shown batch (cause.Refused NoCommand) = ⊥
StopsHearing number shown batch (cause.Refused LongScript) = ⊥
StopsHearing number shown batch (cause.Refused LongDelta) = ⊥
StopsHearing number shown batch (cause.Refused (File refusal)) = ⊥

-- a run stopped: out of memory at its start, with no desk, or at an event that was not done
pub data StopsAfter (old : Past) (events : List Event) (done : ℕ)
    (world : ShownWorld) (outcomes : List Outcome) (why : Cause) : Type 0 where
  at_start : done ≡ 0 → world ≡ empty_world → outcomes ≡ [] → why ≡ cause.NoMemory → StopsAfter old events done world outcomes why
  at_event : (event : Event) → slice_get events done ≡ Some event → IsWorldAfter old (take done events) world outcomes
      → (length world.desks ≤ desk_of event → why ≡ cause.Refused (NoDesk (desk_of event)))
      → ((packet : ℕ) → LacksOnlyPacket (length world.desks) (length world.packets) event packet → why ≡ cause.Refused (NoPacket packet))
      → StopsFor world event why → StopsAfter old events done world outcomes why
