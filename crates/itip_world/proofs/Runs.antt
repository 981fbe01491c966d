-- One more event after others.
use Rattle.std.proofs.Common.{◌≡◌, ℕ, zero, suc, ◌<◌, ◌≤◌, arith, Some, Err, Ok, Result, List, [], ◌∷◌, ◌++◌, length, take, get_or, refl}
use Rattle.std.proofs.Common.{sym, ap, subst, ◌∙◌}
use Rattle.std.specs.Prelude.{slice_get, IsErrOf}
use Rattle.itip_world.specs.Worlds.{Past, EventStep, Runs, ShownWorld, IsWorldAfter, Steps, StopsFor, LacksOnlyPacket, StopsAfter, desk_of}
use Rattle.itip_world.specs.Worlds.StopsAfter.{at_event}
use Rattle.itip_world.specs.declared.event.Event.{Event}
use Rattle.itip_desk.specs.declared.refusal.Refusal.TheVariants.{NoDesk, NoPacket}
use Rattle.itip_world.specs.declared.event.Outcome.{Outcome}
use Rattle.itip_world.specs.declared.stop.Cause.{Cause}
use Rattle.itip_world.specs.declared.stop.Cause.TheVariants as cause

pub runs_more : (old : Past) (events : List Event) (outcomes : List Outcome) (mid : Past) (event : Event) (outcome : Outcome) (new : Past)
    → Runs old events outcomes mid → EventStep mid event outcome new → Runs old (events ++ event ∷ []) (outcomes ++ outcome ∷ []) new
runs_more old [] [] mid event outcome new at step = (new, subst (λ (h : Past). EventStep h event outcome new) at step, refl)
runs_more old [] (o ∷ os) mid event outcome new at step = absurd at
runs_more old (e ∷ es) [] mid event outcome new at step = absurd at
runs_more old (e ∷ es) (o ∷ os) mid event outcome new (first, one, rest) step =
    (first, one, runs_more first es os mid event outcome new rest step)

pub world_more : (old : Past) (events : List Event) (event : Event) (world new : ShownWorld) (outcomes more : List Outcome)
    (outcome : Outcome)
    → IsWorldAfter old events world outcomes → Steps world event outcome new → more ≡ outcomes ++ outcome ∷ [] →
    IsWorldAfter old (events ++ event ∷ []) new more
world_more old events event world new outcomes more outcome after steps more_is =
    let one = steps after.past after.world_is in
    record {
      past = one.more;
      runs = subst (λ (os : List Outcome). Runs old (events ++ event ∷ []) os one.more) (sym more_is)
          (runs_more old events outcomes after.past event outcome one.more after.runs one.step);
      world_is = one.world_is;
    }

-- an event of the list, as the option that reading it returns
pub event_there : (events : List Event) (i : ℕ) (event : Event) → i < length events → event ≡ get_or events i event →
    slice_get events i ≡ Some event
event_there [] i event lt is = absurd (omega arith)
event_there (e ∷ es) zero event lt is = ap Some (sym is)
event_there (e ∷ es) (suc i) event lt is = event_there es i event (omega arith) is

inside : (a b : Cause) (r : Result Outcome Cause) → r ≡ Err a → r ≡ Err b → a ≡ b
inside a b r e f = ap (λ (s : Result Outcome Cause). elim s [ Ok x ↦ a | Err d ↦ d ]) (sym e ∙ f)

-- an event that was not done leaves the world unchanged
pub stops_at : (old : Past) (events : List Event) (done : ℕ) (event : Event) (world new : ShownWorld) (outcomes : List Outcome)
    (why : Cause)
    → slice_get events done ≡ Some event → IsWorldAfter old (take done events) world outcomes → new ≡ world
    → (length world.desks ≤ desk_of event → IsErrOf {T = Outcome} (Err why) (cause.Refused (NoDesk (desk_of event))))
    → ((packet : ℕ) → LacksOnlyPacket (length world.desks) (length world.packets) event packet →
    IsErrOf {T = Outcome} (Err why) (cause.Refused (NoPacket packet)))
    → StopsFor world event why
    → StopsAfter old events done new outcomes why
stops_at old events done event world new outcomes why there after same no_desk no_packet stops =
    subst (λ (w : ShownWorld). StopsAfter old events done w outcomes why) (sym same)
    (at_event event there after
    (λ missing. inside why (cause.Refused (NoDesk (desk_of event))) (Err why) refl (no_desk missing))
    (λ packet lacks. inside why (cause.Refused (NoPacket packet)) (Err why) refl (no_packet packet lacks))
    stops)
