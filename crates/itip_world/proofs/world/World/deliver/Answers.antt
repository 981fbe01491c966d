use Rattle.std.proofs.Common.{◌≡◌, ◌<◌, length, refl, sym, ap, subst, ◌∙◌, Some}
use Rattle.std.specs.Prelude.{slice_get, slice_set, IfOk, IfErr, OnOk}
use Rattle.std.proofs.lemmas.Result.{IfOk-weaker}
use Rattle.itip_message.specs.Message.{RefusesMessage}
use Rattle.itip_desk.specs.Desk.{Shown}
use Rattle.itip_world.specs.Worlds.{ShownWorld, HearsBatch, Steps, StopsFor, OthersStay}
use Rattle.itip_world.specs.declared.event.Event.TheVariants.{Deliver}
use Rattle.itip_world.specs.declared.event.Outcome.{Outcome}
use Rattle.itip_world.proofs.Desks.{slice_get-get_or}
use Rattle.itip_world.proofs.Events.{HearsAt, hears_at, past_hearing, steps_deliver, steps_refused, spends_deliver, others_heard, heard_by}
use Rattle.itip_world.proofs.Events.{stops_for_all}
use Rattle.itip_world.proofs.world.World.deliver.Goals as goal
use Rattle.itip_world.proofs.world.World.deliver.Goals.{After-hear}

pub returns-in-Err-Refused-clause-step : goal.returns-in-Err-Refused-clause-step
returns-in-Err-Refused-clause-step c =
    let refused : RefusesMessage c.args.bytes.now c.in-Err-Refused.refusal =
    rw c.in-Err-Refused.field-0-is at c.in-Err-Refused.ensures.fault in
    steps_refused c.args.self.now c.args.desk c.args.bytes.now c.in-Err-Refused.refusal c.requires refused

abbrev old : After-hear → ShownWorld
old c = record { desks = c.self.inside.desks.items; packets = c.self.inside.packets.items }

abbrev new : After-hear → ShownWorld
new c = record { desks = slice_set c.self.inside.desks.items c.args.desk c.hear.new.desk; packets = c.self.inside.packets.items }

there : (c : After-hear) → slice_get (old c).desks c.args.desk ≡ Some c.index_mut.result.now
there c =
    let within : c.args.desk < length (old c).desks =
    subst (λ (w : ShownWorld). c.args.desk < length w.desks) (sym c.self.view_is) c.requires in
    slice_get-get_or (old c).desks c.args.desk c.index_mut.result.now within ∙ ap (λ (s : Shown). Some s) (sym c.index_mut.ensures.value)

at : (c : After-hear) (outcome : Outcome) → HearsBatch c.index_mut.result.now c.in-Ok.batch c.hear.new.desk outcome →
    HearsAt (old c) c.args.desk c.in-Ok.batch outcome (new c)
at c = hears_at (old c) (new c) c.args.desk c.in-Ok.batch c.index_mut.result.now c.hear.new.desk (there c) refl refl

pub invariant_of-self : goal.invariant_of-self
invariant_of-self c =
    let done = (goal.at.invariant_of-self c).After-hear in
    past_hearing (old done) (new done) c.args.desk c.in-Ok.batch c.index_mut.result.now c.hear.new.desk (there done) refl refl
    c.hear.result c.hear.ensures.hears c.hear.ensures.err c.self.invariant

pub returns-clause-step : goal.returns-clause-step
returns-clause-step c =
    let done = (goal.at.returns-clause-step c).After-hear in
    subst (λ (w : ShownWorld). IfOk c.hear.result (λ outcome. Steps w (Deliver c.args.desk c.args.bytes.now) outcome (new done)))
    c.self.view_is
    (IfOk-weaker c.hear.result _ _ (λ outcome hears. steps_deliver (old done) (new done) c.args.desk c.args.bytes.now
    c.in-Ok.ensures.found.items
    c.in-Ok.batch outcome c.in-Ok.ensures.found.reads c.in-Ok.ensures.found.batch_is.same (at done outcome hears)) c.hear.ensures.hears)

pub returns-clause-others : goal.returns-clause-others
returns-clause-others c =
    let done = (goal.at.returns-clause-others c).After-hear in
    subst (λ (w : ShownWorld). OnOk c.hear.result (OthersStay w (Deliver c.args.desk c.args.bytes.now) (new done))) c.self.view_is
    (heard_by c.hear.result (λ outcome hears. others_heard (old done) (new done) c.args.desk c.in-Ok.batch outcome
    (at done outcome hears)) c.hear.ensures.hears)

pub returns-clause-cause : goal.returns-clause-cause
returns-clause-cause c =
    let done = (goal.at.returns-clause-cause c).After-hear in
    subst (λ (w : ShownWorld). IfErr c.hear.result (λ why. StopsFor w (Deliver c.args.desk c.args.bytes.now) why)) c.self.view_is
    (stops_for_all (old done) (Deliver c.args.desk c.args.bytes.now) c.index_mut.result.now c.in-Ok.batch
    (spends_deliver (old done) c.args.desk c.args.bytes.now c.in-Ok.ensures.found.items c.in-Ok.batch c.index_mut.result.now (there done)
    c.in-Ok.ensures.found.reads c.in-Ok.ensures.found.batch_is.same)
    c.hear.result c.hear.ensures.cause)
