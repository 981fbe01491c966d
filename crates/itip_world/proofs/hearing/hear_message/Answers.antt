use Rattle.std.proofs.lemmas.Result.{err_from_is_err_and, IfErr-weaker}
use Rattle.itip_desk.specs.DeltaFormat.{GivesBatch}
use Rattle.itip_message.specs.Message.{RefusesMessage}
use Rattle.itip_state.proofs.Members.{if_ok_then}
use Rattle.itip_world.specs.Looking.{HearsNow, HearsOctets}
use Rattle.itip_world.specs.Worlds.{StopsHearing}
use Rattle.itip_world.proofs.HeardOctets.{if_read, not_read, stops_octets}
use Rattle.itip_world.proofs.hearing.hear_message.Goals as goal

pub returns-in_err-batch-clause-cause : goal.returns-in_err-batch-clause-cause
returns-in_err-batch-clause-cause c =
    let p = err_from_is_err_and c.from_residual.result c.from_residual.ensures.1 in
    rw (p.1, p.2)
    (not_read c.read_batch.result c.in_err-batch.field-0.0 (GivesBatch c.args.text.now) (RefusesMessage c.args.text.now) c.args.number
    c.args.desk.now c.in_err-batch.ensures c.read_batch.ensures.fault)

pub returns-clause-hears : goal.returns-clause-hears
returns-clause-hears c =
    let gives = if_read c.read_batch.result c.in_ok-batch.batch (GivesBatch c.args.text.now) c.in_ok-batch.ensures
    c.read_batch.ensures.found in
    if_ok_then (HearsNow c.args.desk.now c.in_ok-batch.batch c.hear_batch.new.desk)
    (HearsOctets (GivesBatch c.args.text.now) c.args.desk.now c.hear_batch.new.desk) c.hear_batch.result
    (λ heard hears. record { batch = c.in_ok-batch.batch; gives = gives; hears = hears }) c.hear_batch.ensures.now

pub returns-clause-cause : goal.returns-clause-cause
returns-clause-cause c =
    let gives = if_read c.read_batch.result c.in_ok-batch.batch (GivesBatch c.args.text.now) c.in_ok-batch.ensures
    c.read_batch.ensures.found in
    IfErr-weaker c.hear_batch.result (StopsHearing c.args.number c.args.desk.now c.in_ok-batch.batch) _
    (λ why stops. stops_octets why c.in_ok-batch.batch (GivesBatch c.args.text.now) (RefusesMessage c.args.text.now) c.args.number
    c.args.desk.now gives stops) c.hear_batch.ensures.cause
