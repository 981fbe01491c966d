use Rattle.std.proofs.Common.{◌≡◌, ◌<◌, ◌^◌, ℕ, length, ap, subst, ◌∙◌, arith, refl, rules, Err}
use Rattle.itip_state.specs.Kept.{HasEachOnce}
use Rattle.itip_world.specs.declared.event.Outcome.TheVariants.{Heard}
use Rattle.itip_world.proofs.hearing.hear_batch.Goals as goal

pub returns-in-Ok-clause-hears : goal.returns-in-Ok-clause-hears
returns-in-Ok-clause-hears c =
    let count : c.len.result ≡ length c.in-Ok.changed.uids.items = grind arith in
    record {
      uids = c.in-Ok.changed.uids.items;
      moved = c.in-Ok.ensures.uids;
      once = subst HasEachOnce c.state.ensures c.lawful.ensures.once;
      step = λ steps start is. c.in-Ok.ensures.step steps start is;
      outcome_is = ap (λ (n : ℕ). Heard n c.len.result) c.in-Ok.ensures.tick ∙ ap (λ (n : ℕ). Heard c.take.new.self.tick n) count;
    }

pub returns-in-Ok-clause-now : goal.returns-in-Ok-clause-now
returns-in-Ok-clause-now c =
    let count : c.len.result ≡ length c.in-Ok.changed.uids.items = grind arith in
    record {
      uids = c.in-Ok.changed.uids.items;
      moved = c.in-Ok.ensures.uids;
      kept = c.in-Ok.ensures.kept;
      rises = c.in-Ok.ensures.rises;
      carried = c.in-Ok.ensures.carried;
      tick_is = c.in-Ok.ensures.tick;
      changed_is = count;
      fits = subst (λ (t : ℕ). t < 2 ^ 64) c.in-Ok.ensures.tick (search rules);
      told = c.in-Ok.ensures.told;
    }

pub returns-in-Err-TicksSpent-clause-cause : goal.returns-in-Err-TicksSpent-clause-cause
returns-in-Err-TicksSpent-clause-cause c =
    let at_desk = c.in-Err-TicksSpent.ensures.spent (ap (λ e. Err e) c.in-Err-TicksSpent.field-0-is) in
    (refl, record { last = at_desk.0; uid = at_desk.1.0; moves = at_desk.1.1 })
