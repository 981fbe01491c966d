use Rattle.std.proofs.Common.{ap, sym, ◌∙◌, Some, arith}
use Rattle.itip_desk.specs.DeltaFormat.{ReadsDelta, RefusesDelta}
use Rattle.itip_desk.specs.Desk.{Shown}
use Rattle.itip_script.specs.Stream.{whole}
use Rattle.itip_world.specs.Serving.{arrive}
use Rattle.itip_world.specs.Serving.Serves.{hears_delta, refuses_delta}
use Rattle.itip_world.proofs.Desks.{slice_get-get_or}
use Rattle.itip_world.proofs.Runnings.{on_err}
use Rattle.itip_world.proofs.Serving.{unheard_serves, desks_still, arrived_nowhere}
use Rattle.itip_world.proofs.served.Served.arrive_octets.Goals as goal

pub returns-then-number-len-clause-serves : goal.returns-then-number-len-clause-serves
returns-then-number-len-clause-serves c = λ window. arrived_nowhere c.args.self.now.desks.items c.args.desk window c.args.octets.now
    (omega arith)

pub returns-in-Ok-clause-serves : goal.returns-in-Ok-clause-serves
returns-in-Ok-clause-serves c = λ window.
    hears_delta c.args.desk c.args.octets.now c.index_mut.result.now c.hear_delta.new.desk c.in-Ok.heard
    (slice_get-get_or c.args.self.now.desks.items c.args.desk c.index_mut.result.now (omega arith)
    ∙ ap (λ (s : Shown). Some s) (sym c.index_mut.ensures.value)) c.in-Ok.ensures.hears

pub returns-in-Err-clause-serves : goal.returns-in-Err-clause-serves
returns-in-Err-clause-serves c =
    unheard_serves c.args.self.now.desks.items c.args.desk c.index_mut.result.now
    (slice_get-get_or c.args.self.now.desks.items c.args.desk c.index_mut.result.now (omega arith)
    ∙ ap (λ (s : Shown). Some s) (sym c.index_mut.ensures.value))
    (ReadsDelta c.args.octets.now) (RefusesDelta c.args.octets.now) (arrive c.args.desk (whole c.args.octets.now))
    (λ window why stops. refuses_delta c.args.desk c.args.octets.now c.index_mut.result.now why
    (slice_get-get_or c.args.self.now.desks.items c.args.desk c.index_mut.result.now (omega arith)
    ∙ ap (λ (s : Shown). Some s) (sym c.index_mut.ensures.value)) stops)
    c.unheard.result c.in-Err.cause c.hear_delta.new.desk c.in-Err.ensures.err c.in-Err.ensures.cause c.unheard.ensures.refused
    c.unheard.ensures.some

pub returns-in-Err-clause-err : goal.returns-in-Err-clause-err
returns-in-Err-clause-err c =
    on_err c.unheard.result
    (desks_still c.args.self.now c.args.desk c.index_mut.result.now c.hear_delta.new.desk
    (slice_get-get_or c.args.self.now.desks.items c.args.desk c.index_mut.result.now (omega arith)
    ∙ ap (λ (s : Shown). Some s) (sym c.index_mut.ensures.value)) c.in-Err.ensures.err)
