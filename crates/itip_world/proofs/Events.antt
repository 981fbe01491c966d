-- One event over a world, whatever happened before it.
use Rattle.std.proofs.Common.{◌≡◌, ℕ, ◌<◌, List, [], ◌∷◌, ◌++◌, length, refl, sym, ap, subst, ◌∙◌, Some, Ok, Err}
use Rattle.std.specs.Prelude.{slice_get, slice_set, Result, IfOk, IfErr, OnOk, OnErr}
use Rattle.itip_message.specs.Message.{ReadsMessage, RefusesMessage}
use Rattle.itip_message.specs.declared.error.MessageRefusal.{MessageRefusal}
use Rattle.itip_items.specs.declared.item.Item.{Item}
use Rattle.itip_state.specs.Kept.{AreKept, SameItems}
use Rattle.itip_desk.specs.Desk.{Shown, IsDeskOf, IsDeltaOf}
use Rattle.itip_desk.specs.HeardSteps.{heard}
use Rattle.itip_desk.specs.Ticks.{Ticks}
use Rattle.itip_desk.specs.Octets.{AscendOctets}
use Rattle.itip_desk.proofs.Steps.{moved_of_all, moved_whole, keep_same_down}
use Rattle.itip_desk.specs.DeltaFormat.{delta_octets}
use Rattle.itip_desk.specs.declared.refusal.Refusal.TheVariants as refusal
use Rattle.itip_world.specs.Worlds.{Past, past_with_step, past_with_packet, with_one_more, with_step, ShownWorld, IsWorldOf, HasPast}
use Rattle.itip_world.specs.Worlds.{AreDesksOf, ArePacketTexts, EventStep, Steps, Spends, StopsFor, StopsHearing, HearsBatch, IsAtLastTick}
use Rattle.itip_world.specs.Worlds.{IsEntriesOf, CountsKept, entries_shown, desk_of}
use Rattle.itip_world.specs.Worlds.EventStep.{delivers, posts, arrives}
use Rattle.itip_world.specs.Worlds.Hears.{reads, refuses}
use Rattle.itip_world.specs.Worlds.IsSpent.{spends, spends_arriving}
use Rattle.itip_world.specs.declared.event.Event.{Event}
use Rattle.itip_world.specs.declared.event.Event.TheVariants.{Deliver, Post, Arrive}
use Rattle.itip_world.specs.declared.event.Outcome.{Outcome}
use Rattle.itip_world.specs.declared.event.Outcome.TheVariants.{Heard, Posted, Refused}
use Rattle.itip_world.specs.declared.stop.Cause.{Cause}
use Rattle.itip_world.specs.declared.stop.Cause.TheVariants as cause
use Rattle.itip_desk.proofs.ReadDeltas.{known_by_octets}
use Rattle.itip_world.proofs.Desks.{counted, after_nothing, heard_more, HeardMore, desk_there, set_itself, get_set_other, history_at}
use Rattle.itip_world.proofs.Packets.{posted, texts_more, texts_length, packet_at, PacketAt}
use Rattle.itip_world.proofs.Swaps.{AreAlike, kept_alike_whole, alike_back, keep_same_swap, desk_swap}

-- what comes of an event has a past if what was before it has one
pub past_after : (old : ShownWorld) (event : Event) (outcome : Outcome) (new : ShownWorld) → HasPast old → Steps old event outcome new →
    HasPast new
past_after old event outcome new before steps = let one = steps before.0 before.1 in (one.more, one.world_is)

-- packets that stay
same_packets : (past : Past) (old new : ShownWorld) → new.packets ≡ old.packets → IsWorldOf past old →
    ArePacketTexts past.packets new.packets
same_packets past old new same is = subst (λ (ps : List (List ℕ)). ArePacketTexts past.packets ps) (sym same) is.packets_are

-- ---- a desk hears a batch

-- a desk of a world hears a batch, and what comes of it
pub record HearsAt (old : ShownWorld) (desk : ℕ) (batch : List Item) (outcome : Outcome) (new : ShownWorld) : Type 0 where
  pub was : Shown
  pub is : Shown
  pub there : slice_get old.desks desk ≡ Some was
  pub hearing : HearsBatch was batch is outcome
  pub desks_are : new.desks ≡ slice_set old.desks desk is
  pub packets_are : new.packets ≡ old.packets

module _ (old new : ShownWorld) (desk : ℕ) (batch : List Item) (outcome : Outcome) (hears : HearsAt old desk batch outcome new) where
  -- the desk with one more step, which is the batch or as good as it
  heard_as : (past : Past) → IsWorldOf past old → (step : List Item) →
      ((steps : List (List Item)) (start : ℕ) → IsDeskOf steps start hears.was → IsDeskOf (steps ++ step ∷ []) start hears.is)
      → HeardMore past.histories old.desks desk step hears.was new.desks
  heard_as past is step steps = subst (λ (ds : List Shown). HeardMore past.histories old.desks desk step hears.was ds) (sym hears.desks_are)
      (heard_more past.histories old.desks desk step hears.was hears.is is.desks_are hears.there
      (λ history was. counted (with_one_more history step) hears.is (steps history.steps history.start was.is) hears.hearing.once))

  past_heard : HasPast old → HasPast new
  past_heard (past, is) = (
    past_with_step past desk batch,
    record { desks_are = (heard_as past is batch hears.hearing.step).are; packets_are = same_packets past old new hears.packets_are is },
  )

  pub others_heard : (number : ℕ) → (number ≡ desk → ⊥) → slice_get new.desks number ≡ slice_get old.desks number
  others_heard number not = ap (λ (ds : List Shown). slice_get ds number) hears.desks_are ∙ get_set_other old.desks desk number hears.is not

module _ (old new : ShownWorld) (desk : ℕ) (batch : List Item) (was is : Shown) (there : slice_get old.desks desk ≡ Some was)
    (desks_are : new.desks ≡ slice_set old.desks desk is) (packets_are : new.packets ≡ old.packets) where
  pub hears_at : (outcome : Outcome) → HearsBatch was batch is outcome → HearsAt old desk batch outcome new
  hears_at outcome hears = record { was = was; is = is; there = there; hearing = hears; desks_are = desks_are; packets_are = packets_are }

  -- a desk that heard nothing leaves a world that has a past
  past_still : is ≡ was → HasPast old → HasPast new
  past_still still (past, world_is) = (
    past,
    record {
      desks_are = subst (λ (ds : List Shown). AreDesksOf past.histories ds)
          (sym (desks_are ∙ ap (λ (d : Shown). slice_set old.desks desk d) still ∙ set_itself old.desks desk was there)) world_is.desks_are;
      packets_are = same_packets past old new packets_are world_is;
    },
  )

  -- whether the desk heard the batch or not, the world has a past
  pub past_hearing : {E : Type 0} (r : Result Outcome E) → IfOk r (λ outcome. HearsBatch was batch is outcome) → OnErr r (is ≡ was) →
      HasPast old → HasPast new
  past_hearing (Ok outcome) hears still before = past_heard old new desk batch outcome (hears_at outcome hears) before
  past_hearing (Err e) hears still before = past_still still before

-- ---- a delivery

pub steps_deliver : (old new : ShownWorld) (desk : ℕ) (bytes : List ℕ) (items batch : List Item) (outcome : Outcome) →
    ReadsMessage bytes items → SameItems batch items → HearsAt old desk batch outcome new
    → Steps old (Deliver desk bytes) outcome new
steps_deliver old new desk bytes items batch outcome read same hears past is =
    let more = heard_as old new desk batch outcome hears past is batch hears.hearing.step in
    record {
      more = past_with_step past desk batch;
      step = subst (λ (o : Outcome). EventStep past (Deliver desk bytes) o (past_with_step past desk batch)) (sym hears.hearing.outcome_is)
          (delivers desk bytes more.history batch (Heard hears.is.tick (length hears.hearing.uids)) more.there
          (reads items hears.hearing.uids hears.is.tick read same (record {
            moved = moved_of_all hears.hearing.uids hears.was.kept (heard more.history.steps) batch more.was.kept hears.hearing.moved;
            ticks = (hears.hearing.step more.history.steps more.history.start more.was).tick;
          })));
      world_is = record { desks_are = more.are; packets_are = same_packets past old new hears.packets_are is };
    }

-- a text that is refused
pub steps_refused : (world : ShownWorld) (desk : ℕ) (bytes : List ℕ) (why : MessageRefusal) → desk < length world.desks →
    RefusesMessage bytes why → Steps world (Deliver desk bytes) (Refused (refusal.Message why)) world
steps_refused world desk bytes why within refused past is =
    let there = desk_there world.desks desk within in
    let more = heard_more past.histories world.desks desk [] there.0 there.0 is.desks_are there.1
    (λ history after. after_nothing history there.0 after) in
    record {
      more = past_with_step past desk [];
      step = delivers desk bytes more.history [] (Refused (refusal.Message why)) more.there (refuses why refused refl);
      world_is = record {
        desks_are = subst (λ (ds : List Shown). AreDesksOf (with_step past.histories desk []) ds)
            (set_itself world.desks desk there.0 there.1) more.are;
        packets_are = is.packets_are;
      };
    }

pub spends_deliver : (world : ShownWorld) (desk : ℕ) (bytes : List ℕ) (items batch : List Item) (shown : Shown) →
    slice_get world.desks desk ≡ Some shown → ReadsMessage bytes items → SameItems batch items
    → IsAtLastTick shown batch → Spends world (Deliver desk bytes)
spends_deliver world desk bytes items batch shown there read same end past is =
    let at = history_at past.histories world.desks desk shown is.desks_are there in
    spends desk bytes at.history items batch end.uid at.there read same
    (subst (λ (t : ℕ). Ticks [] at.history.start at.history.steps t) end.last at.is.tick)
    (λ alike. end.moves (keep_same_down end.uid shown.kept (heard at.history.steps) batch at.is.kept alike))

-- ---- a post

pub steps_post : (old new : ShownWorld) (desk since : ℕ) (shown : Shown) (batch : List Item) (octets : List ℕ)
    → slice_get old.desks desk ≡ Some shown → IsDeltaOf shown since batch → octets ≡ delta_octets batch → new.desks ≡ old.desks →
    new.packets ≡ old.packets ++ octets ∷ []
    → Steps old (Post desk since) (Posted (length old.packets) (length batch)) new
steps_post old new desk since shown batch octets there delta written still grown past is =
    let at = history_at past.histories old.desks desk shown is.desks_are there in
    let told = posted at.history shown since batch at.is delta in
    record {
      more = past_with_packet past told.0;
      step = subst (λ (n : ℕ). EventStep past (Post desk since) (Posted n (length batch)) (past_with_packet past told.0))
          (texts_length past.packets old.packets is.packets_are)
          (posts desk since at.history told.0 batch at.there told.1 told.2);
      world_is = record {
        desks_are = subst (λ (ds : List Shown). AreDesksOf past.histories ds) (sym still) is.desks_are;
        packets_are = subst (λ (ts : List (List ℕ)). ArePacketTexts (past.packets ++ told.0 ∷ []) ts) (sym grown)
            (texts_more past.packets old.packets told.0 octets is.packets_are
            (record { batch = batch; batch_is = told.2; octets_are = written }));
      };
    }

-- ---- an arrival

module _ (old : ShownWorld) (packet desk : ℕ) (octets : List ℕ) (batch : List Item)
    (posted_there : slice_get old.packets packet ≡ Some octets) (written : octets ≡ delta_octets batch) (ascend : AscendOctets batch) where
  -- what a packet tells, of which the batch is kept
  record Told (past : Past) : Type 0 where
    at : PacketAt past.packets packet octets
    kept : AreKept batch at.told

  told_by : (past : Past) → IsWorldOf past old → Told past
  told_by past is =
      let at = packet_at past.packets old.packets packet octets is.packets_are posted_there in
      let same : at.text.batch ≡ batch =
      known_by_octets at.text.batch batch at.text.batch_is.ascend ascend (sym at.text.octets_are ∙ written) in
      record { at = at; kept = subst (λ (b : List Item). AreKept b at.told) same at.text.batch_is.kept }

  pub steps_arrive : (new : ShownWorld) (outcome : Outcome) → HearsAt old desk batch outcome new →
      Steps old (Arrive packet desk) outcome new
  steps_arrive new outcome hears past is =
      let told = told_by past is in
      let alike : AreAlike batch told.at.told = kept_alike_whole batch told.at.told told.kept in
      let steps : (steps : List (List Item)) (start : ℕ) → IsDeskOf steps start hears.was →
      IsDeskOf (steps ++ told.at.told ∷ []) start hears.is =
      λ steps start d. desk_swap steps start hears.is batch told.at.told alike (hears.hearing.step steps start d) in
      let more = heard_as old new desk batch outcome hears past is told.at.told steps in
      record {
        more = past_with_step past desk told.at.told;
        step = subst (λ (o : Outcome). EventStep past (Arrive packet desk) o (past_with_step past desk told.at.told))
            (sym hears.hearing.outcome_is)
            (arrives packet desk told.at.told more.history hears.hearing.uids hears.is.tick told.at.there more.there (record {
              moved = moved_whole hears.hearing.uids (heard more.history.steps) batch told.at.told told.kept
                  (moved_of_all hears.hearing.uids hears.was.kept (heard more.history.steps) batch more.was.kept hears.hearing.moved);
              ticks = (steps more.history.steps more.history.start more.was).tick;
            }));
        world_is = record { desks_are = more.are; packets_are = same_packets past old new hears.packets_are is };
      }

  pub spends_arrive : (shown : Shown) → slice_get old.desks desk ≡ Some shown → IsAtLastTick shown batch → Spends old (Arrive packet desk)
  spends_arrive shown there end past is =
      let told = told_by past is in
      let alike : AreAlike batch told.at.told = kept_alike_whole batch told.at.told told.kept in
      let at = history_at past.histories old.desks desk shown is.desks_are there in
      spends_arriving packet desk told.at.told at.history end.uid told.at.there at.there
      (subst (λ (t : ℕ). Ticks [] at.history.start at.history.steps t) end.last at.is.tick)
      (λ same. end.moves (keep_same_down end.uid shown.kept (heard at.history.steps) batch at.is.kept
      (keep_same_swap end.uid (heard at.history.steps) told.at.told batch (alike_back batch told.at.told alike) same)))

-- ---- the number of what a desk keeps

pub entries_of : (world : ShownWorld) (desk : ℕ) (shown : Shown) (count : ℕ) → slice_get world.desks desk ≡ Some shown →
    count ≡ entries_shown shown → IsEntriesOf world desk count
entries_of world desk shown count there is past world_is =
    let at = history_at past.histories world.desks desk shown world_is.desks_are there in
    record { history = at.history; there = at.there; counts = subst (CountsKept (heard at.history.steps)) (sym is) at.entries }

pub heard_by : {E P : Type 0} {Q : Outcome → Type 0} (r : Result Outcome E) → ((outcome : Outcome) → Q outcome → P) → IfOk r Q → OnOk r P
heard_by (Ok outcome) f hears = f outcome hears
heard_by (Err e) f hears = tt

-- ---- why a batch is not heard

-- a cause for which a desk doesn't hear a batch is one for which the event that brings it is not done
module _ (world : ShownWorld) (event : Event) (shown : Shown) (batch : List Item) (at_last : IsAtLastTick shown batch → Spends world event)
  where
    pub stops_for : (why : Cause) → StopsHearing (desk_of event) shown batch why → StopsFor world event why
    stops_for cause.NoMemory stops = tt
    stops_for (cause.Refused (refusal.TicksSpent desk)) stops = (stops.0, at_last stops.1)
    stops_for (cause.Refused (refusal.NoDesk desk)) stops = absurd stops
    stops_for (cause.Refused (refusal.NoPacket packet)) stops = absurd stops
    stops_for (cause.Refused (refusal.Message why)) stops = absurd stops
    stops_for (cause.Refused refusal.TooManyRows) stops = absurd stops
    stops_for (cause.Refused refusal.NoCommand) stops = absurd stops
    stops_for (cause.Refused refusal.LongScript) stops = absurd stops
    stops_for (cause.Refused refusal.LongDelta) stops = absurd stops
    stops_for (cause.Refused (refusal.File why)) stops = absurd stops

pub stops_for_all : {T : Type 0} (world : ShownWorld) (event : Event) (shown : Shown) (batch : List Item) →
    (IsAtLastTick shown batch → Spends world event)
    → (r : Result T Cause) → IfErr r (λ why. StopsHearing (desk_of event) shown batch why) → IfErr r (λ why. StopsFor world event why)
stops_for_all world event shown batch at_last (Ok x) stops = tt
stops_for_all world event shown batch at_last (Err why) stops = stops_for world event shown batch at_last why stops
