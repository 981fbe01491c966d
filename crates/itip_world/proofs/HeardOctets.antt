-- What a desk hears of some bytes, or why it hears nothing.
use Rattle.std.proofs.Common.{◌≡◌, sym, subst, ℕ, zero, suc, List, [], ◌∷◌, Option, Some, None, Result, Ok, Err, IfOk, IfErr}
use Rattle.std.specs.Prelude.{slice_get, slice_set}
use Rattle.std.specs.List.{All}
use Rattle.std.proofs.lemmas.List.Elements.{All-head, All-set, All-tail}
use Rattle.itip_view.specs.declared.window.Window.{Window}
use Rattle.itip_items.specs.declared.item.Item.{Item}
use Rattle.itip_message.specs.Refusals.{IfRefused}
use Rattle.itip_message.specs.declared.error.MessageRefusal.{MessageRefusal}
use Rattle.itip_message.specs.declared.error.ReadError.{ReadError}
use Rattle.itip_message.specs.declared.error.ReadError.TheVariants as read
use Rattle.itip_desk.specs.Desk.{Shown}
use Rattle.itip_desk.specs.DeskFile.{IsTold}
use Rattle.itip_desk.specs.declared.refusal.Refusal.TheVariants as refusal
use Rattle.itip_world.specs.Looking.{StopsOctets, read_as}
use Rattle.itip_world.specs.Serving.{Serving, Serves, Served, RunsStream}
use Rattle.itip_world.specs.Serving.Serves.{takes_message, refuses_message, long_take, cut_take, takes_nowhere, hears_delta, refuses_delta}
use Rattle.itip_world.specs.Serving.Serves.{long_delta, cut_delta, arrives_nowhere, posts_delta, posts_nothing, saves_desk, saves_none}
use Rattle.itip_world.specs.Serving.Serves.{saves_nothing, looks_at, knows_nothing, says_nothing}
use Rattle.itip_world.specs.Worlds.{StopsHearing}
use Rattle.itip_world.specs.Running.{Answer}
use Rattle.itip_world.specs.declared.stop.Cause.{Cause}
use Rattle.itip_world.specs.declared.stop.Cause.TheVariants as cause

-- ---- bytes that are read

-- what was read is read
pub if_read : {B : Type 0} (r : Result B ReadError) (b : B) (P : B → Type 0) → Ok b ≡ read_as r → IfOk r P → P b
if_read (Ok x) b P e h = let same : x ≡ b = cc in subst P same h
if_read (Err read.NoMemory) b P e h = absurd (other e)
  where
    other : {A E : Type 0} {a : A} {x : E} → Ok a ≡ Err x → ⊥
    other e = cc
if_read (Err (read.Refused why)) b P e h = absurd (other e)
  where
    other : {A E : Type 0} {a : A} {x : E} → Ok a ≡ Err x → ⊥
    other e = cc

-- and why it isn't
pub not_read : {B : Type 0} (r : Result B ReadError) (why : Cause) (Gives : List Item → Type 0) (Refuses : MessageRefusal → Type 0)
    (number : ℕ) (shown : Shown) → Err why ≡ read_as r → IfErr r (λ e. IfRefused e Refuses) → StopsOctets Gives Refuses number shown why
not_read (Ok x) why Gives Refuses number shown e h = absurd (other e)
  where
    other : {A E : Type 0} {a : A} {x : E} → Err x ≡ Ok a → ⊥
    other e = cc
not_read (Err read.NoMemory) why Gives Refuses number shown e h =
    let same : why ≡ cause.NoMemory = cc in subst (StopsOctets Gives Refuses number shown) (sym same) tt
not_read (Err (read.Refused of)) why Gives Refuses number shown e h =
    let same : why ≡ cause.Refused (refusal.Message of) = cc in subst (StopsOctets Gives Refuses number shown) (sym same) h

-- a desk that can't hear a batch can't hear the bytes that tell it
pub stops_octets : (why : Cause) (batch : List Item) (Gives : List Item → Type 0) (Refuses : MessageRefusal → Type 0) (number : ℕ)
    (shown : Shown) → Gives batch → StopsHearing number shown batch why → StopsOctets Gives Refuses number shown why
stops_octets cause.NoMemory batch Gives Refuses number shown gives stops = tt
stops_octets (cause.Refused (refusal.TicksSpent desk)) batch Gives Refuses number shown gives stops =
    record { batch = batch; gives = gives; stops = stops }
stops_octets (cause.Refused (refusal.Message of)) batch Gives Refuses number shown gives stops = absurd stops
stops_octets (cause.Refused refusal.TooManyRows) batch Gives Refuses number shown gives stops = absurd stops
stops_octets (cause.Refused (refusal.NoDesk desk)) batch Gives Refuses number shown gives stops = absurd stops
stops_octets (cause.Refused (refusal.NoPacket packet)) batch Gives Refuses number shown gives stops = absurd stops
stops_octets (cause.Refused refusal.NoCommand) batch Gives Refuses number shown gives stops = absurd stops
stops_octets (cause.Refused refusal.LongScript) batch Gives Refuses number shown gives stops = absurd stops
stops_octets (cause.Refused refusal.LongDelta) batch Gives Refuses number shown gives stops = absurd stops
stops_octets (cause.Refused (refusal.File of)) batch Gives Refuses number shown gives stops = absurd stops

-- ---- desks that their files tell completely

some_same : (a b : Shown) → Some a ≡ Some b → a ≡ b
some_same a b e = cc

none_some : (a : Shown) → None ≡ Some a → ⊥
none_some a e = cc

told_at : (desks : List Shown) (desk : ℕ) (was : Shown) → All IsTold desks → slice_get desks desk ≡ Some was → IsTold was
told_at [] desk was told there = absurd (none_some was there)
told_at (shown ∷ desks) zero was told there = subst IsTold (some_same shown was there) (All-head IsTold shown desks told)
told_at (shown ∷ desks) (suc desk) was told there = told_at desks desk was (All-tail IsTold shown desks told) there

module _ (window : Window) (old : List Shown) (told : All IsTold old) where
  heard : (desk : ℕ) (was is : Shown) → slice_get old desk ≡ Some was → (IsTold was → IsTold is) → All IsTold (slice_set old desk is)
  heard desk was is there keeps = All-set IsTold old desk is (keeps (told_at old desk was told there)) told

  -- a command leaves them so
  pub serves_told : (new : List Shown) (serving : Serving) (reply : Option Answer) → Serves window old serving reply new → All IsTold new
  serves_told _ _ _ (takes_message desk text was is given there hears) = heard desk was is there hears.hears.told
  serves_told _ _ _ (refuses_message desk text was why there stops) = told
  serves_told _ _ _ (long_take desk within) = told
  serves_told _ _ _ (cut_take desk) = told
  serves_told _ _ _ (takes_nowhere desk body here missing) = told
  serves_told _ _ _ (hears_delta desk octets was is given there hears) = heard desk was is there hears.hears.told
  serves_told _ _ _ (refuses_delta desk octets was why there stops) = told
  serves_told _ _ _ (long_delta desk within) = told
  serves_told _ _ _ (cut_delta desk) = told
  serves_told _ _ _ (arrives_nowhere desk body here missing) = told
  serves_told _ _ _ (posts_delta desk since was batch there is) = told
  serves_told _ _ _ (posts_nothing desk since missing) = told
  serves_told _ _ _ (saves_desk desk file was there) = told
  serves_told _ _ _ (saves_none desk file within) = told
  serves_told _ _ _ (saves_nothing desk file missing) = told
  serves_told _ _ _ (looks_at order answer asks looks) = told
  serves_told _ _ _ knows_nothing = told
  serves_told _ _ _ says_nothing = told

-- and so does a stream
pub stream_told : (window : Window) (input : Option (List ℕ)) (desks : List Shown) (served : List Served) (left : Option (List ℕ))
    (after : List Shown) → RunsStream window input desks served left after → All IsTold desks → All IsTold after
stream_told window input desks [] left after runs told = subst (λ (ds : List Shown). All IsTold ds) (sym runs.1) told
stream_told window input desks (one ∷ served) left after (mid, between, reads, serves, rest) told =
    stream_told window mid between served left after rest (serves_told window desks told between _ _ serves)
