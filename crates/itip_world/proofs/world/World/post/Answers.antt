use Rattle.std.proofs.Common.{◌≡◌, ◌<◌, length, refl, sym, ap, subst, ◌∙◌, Some, arith}
use Rattle.itip_world.specs.Worlds.{ShownWorld, Steps}
use Rattle.itip_world.specs.declared.event.Event.TheVariants.{Post}
use Rattle.itip_world.specs.declared.event.Outcome.{Outcome}
use Rattle.itip_world.specs.declared.event.Outcome.TheVariants.{Posted}
use Rattle.itip_world.proofs.Desks.{slice_get-get_or}
use Rattle.itip_world.proofs.Events.{steps_post, past_after}
use Rattle.itip_world.proofs.world.World.post.Goals as goal
use Rattle.itip_world.proofs.world.World.post.Goals.{In_ok-push}

abbrev old : In_ok-push → ShownWorld
old c = record { desks = c.self.inside.desks.items; packets = c.self.inside.packets.items }

abbrev new : In_ok-push → ShownWorld
new c = record { desks = c.self.inside.desks.items; packets = c.push.new.self.items }

abbrev came : In_ok-push → Outcome
came c = Posted c.len-number.result (length c.as_slice-items.result.now)

steps : (c : In_ok-push) → Steps (old c) (Post c.args.desk c.args.since) (came c) (new c)
steps c =
    let within : c.args.desk < length (old c).desks =
    subst (λ (w : ShownWorld). c.args.desk < length w.desks) (sym c.self.view_is) c.requires in
    let shown = c.index.result.now in
    let number : length (old c).packets ≡ c.len-number.result = grind arith in
    let count : length c.in_ok-batch.batch ≡ length c.as_slice-items.result.now = sym (ap length c.as_slice-items.ensures.items) in
    subst (λ (o : Outcome). Steps (old c) (Post c.args.desk c.args.since) o (new c))
    (ap (λ n. Posted n (length c.in_ok-batch.batch)) number ∙ ap (λ n. Posted c.len-number.result n) count)
    (steps_post (old c) (new c) c.args.desk c.args.since shown c.in_ok-batch.batch c.of_batch-packet.result
    (slice_get-get_or (old c).desks c.args.desk shown within ∙ ap Some (sym c.index.ensures))
    c.in_ok-batch.ensures.delta c.of_batch-packet.ensures refl c.in_ok-push.ensures.items)

pub returns-clause-step : goal.returns-clause-step
returns-clause-step c =
    let done = (goal.at.returns-clause-step c).In_ok-push in
    subst (λ (w : ShownWorld). Steps w (Post c.args.desk c.args.since) (came done) (new done)) c.self.view_is (steps done)

pub invariant_of-self-2 : goal.invariant_of-self-2
invariant_of-self-2 c =
    let done = (goal.at.invariant_of-self-2 c).In_ok-push in
    past_after (old done) (Post c.args.desk c.args.since) (came done) (new done) c.self.invariant (steps done)
