use Rattle.std.proofs.Common.{◌≡◌, ◌+◌, [], ◌∷◌, ◌++◌, List, length, take, refl, sym, subst, ap, ◌∙◌, arith}
use Rattle.std.proofs.lemmas.List.{take_more}
use Rattle.itip_world.specs.Worlds.{no_past, Runs, IsWorldAfter}
use Rattle.itip_world.specs.declared.event.Event.{Event}
use Rattle.itip_world.specs.declared.event.Outcome.{Outcome}
use Rattle.itip_world.proofs.Runs.{world_more, stops_at, event_there}
use Rattle.itip_world.proofs.run.run_world.Goals as goal

pub loop-done-init : goal.loop-done-init
loop-done-init c =
    let ok = c.in-Ok.ran.outcomes.ok.0 in
    let none : length c.in-Ok.ran.outcomes.items ≡ 0 = ap length c.in-Ok.ensures.outcomes in (
      record {
        past = no_past c.args.desks;
        runs =
            subst (λ (os : List Outcome). Runs (no_past c.args.desks) [] os (no_past c.args.desks)) (sym c.in-Ok.ensures.outcomes) refl;
        world_is = c.in-Ok.ensures.world;
      },
      omega (arith, ok, none),
      c.in-Ok.ensures.room,
    )

pub returns-in-Err-clause-stopped : goal.returns-in-Err-clause-stopped
returns-in-Err-clause-stopped c =
    stops_at (no_past c.args.desks) c.args.events.now c.loop-done.done c.index-events-done.result c.loop-done.world c.step.new.self
    c.loop-done.outcomes.items c.in-Err.cause
    (event_there c.args.events.now c.loop-done.done c.index-events-done.result (omega arith) c.index-events-done.is)
    c.loop-done.invariant.0 c.in-Err.ensures.err c.in-Err.ensures.no_desk c.in-Err.ensures.no_packet c.in-Err.ensures.cause

pub loop-done-preserved : goal.loop-done-preserved
loop-done-preserved c =
    let event : Event = c.index-events-done.result in
    let more = world_more (no_past c.args.desks) (take c.loop-done.done c.args.events.now) event c.loop-done.world c.step.new.self
    c.loop-done.outcomes.items c.push_reserved.new.self.items c.in-Ok-step.outcome
    c.loop-done.invariant.0 c.in-Ok-step.ensures.step c.push_reserved.ensures.items in
    let all : take (c.loop-done.done + 1) c.args.events.now ≡ take c.loop-done.done c.args.events.now ++ event ∷ [] =
    take_more c.args.events.now c.loop-done.done event (omega arith) ∙
    ap (λ (e : Event). take c.loop-done.done c.args.events.now ++ e ∷ []) (sym c.index-events-done.is) in (
      subst (λ (es : List Event). IsWorldAfter (no_past c.args.desks) es c.step.new.self c.push_reserved.new.self.items) (sym all) more,
      omega arith,
      omega arith,
    )
