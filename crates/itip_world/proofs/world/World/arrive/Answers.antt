use Rattle.std.proofs.Common.{◌≡◌, ◌<◌, length, refl, sym, ap, subst, ◌∙◌, Some}
use Rattle.std.specs.Prelude.{slice_get, slice_set, IfOk, IfErr, OnOk}
use Rattle.std.proofs.lemmas.Result.{IfOk-weaker}
use Rattle.itip_desk.specs.Desk.{Shown}
use Rattle.itip_world.specs.Worlds.{ShownWorld, HearsBatch, Steps, StopsFor, OthersStay}
use Rattle.itip_world.specs.declared.event.Event.TheVariants.{Arrive}
use Rattle.itip_world.specs.declared.event.Outcome.{Outcome}
use Rattle.itip_world.proofs.Desks.{slice_get-get_or}
use Rattle.itip_world.proofs.Packets.{text_there}
use Rattle.itip_world.proofs.Events.{HearsAt, hears_at, past_hearing, steps_arrive, spends_arrive, others_heard, heard_by, stops_for_all}
use Rattle.itip_world.proofs.world.World.arrive.Goals as goal
use Rattle.itip_world.proofs.world.World.arrive.Goals.{After-hear}

abbrev old : After-hear → ShownWorld
old c = record { desks = c.self.inside.desks.items; packets = c.self.inside.packets.items }

abbrev new : After-hear → ShownWorld
new c = record { desks = slice_set c.self.inside.desks.items c.args.desk c.hear.new.desk; packets = c.self.inside.packets.items }

there : (c : After-hear) → slice_get (old c).desks c.args.desk ≡ Some c.index_mut.result.now
there c =
    let within : c.args.desk < length (old c).desks =
    subst (λ (w : ShownWorld). c.args.desk < length w.desks) (sym c.self.view_is) c.requires.desk in
    slice_get-get_or (old c).desks c.args.desk c.index_mut.result.now within ∙ ap (λ (s : Shown). Some s) (sym c.index_mut.ensures.value)

posted : (c : After-hear) → slice_get (old c).packets c.args.packet ≡ Some c.index.result.now
posted c =
    let within : c.args.packet < length (old c).packets =
    subst (λ (w : ShownWorld). c.args.packet < length w.packets) (sym c.self.view_is) c.requires.packet in
    text_there (old c).packets c.args.packet c.index.result.now c.index.result.now within c.index.ensures

at : (c : After-hear) (outcome : Outcome) → HearsBatch c.index_mut.result.now c.batch-batch.result.now c.hear.new.desk outcome →
    HearsAt (old c) c.args.desk c.batch-batch.result.now outcome (new c)
at c = hears_at (old c) (new c) c.args.desk c.batch-batch.result.now c.index_mut.result.now c.hear.new.desk (there c) refl refl

pub invariant_of-self : goal.invariant_of-self
invariant_of-self c =
    let done = (goal.at.invariant_of-self c).After-hear in
    past_hearing (old done) (new done) c.args.desk c.batch-batch.result.now c.index_mut.result.now c.hear.new.desk (there done) refl refl
    c.hear.result c.hear.ensures.hears c.hear.ensures.err c.self.invariant

pub returns-clause-step : goal.returns-clause-step
returns-clause-step c =
    let done = (goal.at.returns-clause-step c).After-hear in
    subst (λ (w : ShownWorld). IfOk c.hear.result (λ outcome. Steps w (Arrive c.args.packet c.args.desk) outcome (new done))) c.self.view_is
    (IfOk-weaker c.hear.result _ _ (λ outcome hears. steps_arrive (old done) c.args.packet c.args.desk c.index.result.now
    c.batch-batch.result.now (posted done) c.batch-batch.ensures.octets c.batch-batch.ensures.ascend (new done) outcome
    (at done outcome hears)) c.hear.ensures.hears)

pub returns-clause-others : goal.returns-clause-others
returns-clause-others c =
    let done = (goal.at.returns-clause-others c).After-hear in
    subst (λ (w : ShownWorld). OnOk c.hear.result (OthersStay w (Arrive c.args.packet c.args.desk) (new done))) c.self.view_is
    (heard_by c.hear.result (λ outcome hears. others_heard (old done) (new done) c.args.desk c.batch-batch.result.now outcome
    (at done outcome hears)) c.hear.ensures.hears)

pub returns-clause-cause : goal.returns-clause-cause
returns-clause-cause c =
    let done = (goal.at.returns-clause-cause c).After-hear in
    subst (λ (w : ShownWorld). IfErr c.hear.result (λ why. StopsFor w (Arrive c.args.packet c.args.desk) why)) c.self.view_is
    (stops_for_all (old done) (Arrive c.args.packet c.args.desk) c.index_mut.result.now c.batch-batch.result.now
    (spends_arrive (old done) c.args.packet c.args.desk c.index.result.now c.batch-batch.result.now (posted done)
    c.batch-batch.ensures.octets c.batch-batch.ensures.ascend c.index_mut.result.now (there done))
    c.hear.result c.hear.ensures.cause)
