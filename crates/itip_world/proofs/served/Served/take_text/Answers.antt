use Rattle.std.proofs.Common.{ap, sym, ◌∙◌, Some, arith}
use Rattle.itip_desk.specs.DeltaFormat.{GivesBatch}
use Rattle.itip_desk.specs.Desk.{Shown}
use Rattle.itip_message.specs.Message.{RefusesMessage}
use Rattle.itip_script.specs.Stream.{whole}
use Rattle.itip_world.specs.Serving.{take}
use Rattle.itip_world.specs.Serving.Serves.{takes_message, refuses_message}
use Rattle.itip_world.proofs.Desks.{slice_get-get_or}
use Rattle.itip_world.proofs.Runnings.{on_err}
use Rattle.itip_world.proofs.Serving.{unheard_serves, desks_still, taken_nowhere}
use Rattle.itip_world.proofs.served.Served.take_text.Goals as goal

pub returns-then-number-len-clause-serves : goal.returns-then-number-len-clause-serves
returns-then-number-len-clause-serves c = λ window.
    taken_nowhere c.args.self.now.desks.items c.args.desk window c.args.text.now (omega arith)

pub returns-in-Ok-clause-serves : goal.returns-in-Ok-clause-serves
returns-in-Ok-clause-serves c = λ window.
    takes_message c.args.desk c.args.text.now c.index_mut.result.now c.hear_message.new.desk c.in-Ok.heard
    (slice_get-get_or c.args.self.now.desks.items c.args.desk c.index_mut.result.now (omega arith)
    ∙ ap (λ (s : Shown). Some s) (sym c.index_mut.ensures.value)) c.in-Ok.ensures.hears

pub returns-in-Err-clause-serves : goal.returns-in-Err-clause-serves
returns-in-Err-clause-serves c =
    unheard_serves c.args.self.now.desks.items c.args.desk c.index_mut.result.now
    (slice_get-get_or c.args.self.now.desks.items c.args.desk c.index_mut.result.now (omega arith)
    ∙ ap (λ (s : Shown). Some s) (sym c.index_mut.ensures.value))
    (GivesBatch c.args.text.now) (RefusesMessage c.args.text.now) (take c.args.desk (whole c.args.text.now))
    (λ window why stops. refuses_message c.args.desk c.args.text.now c.index_mut.result.now why
    (slice_get-get_or c.args.self.now.desks.items c.args.desk c.index_mut.result.now (omega arith)
    ∙ ap (λ (s : Shown). Some s) (sym c.index_mut.ensures.value)) stops)
    c.unheard.result c.in-Err.cause c.hear_message.new.desk c.in-Err.ensures.err c.in-Err.ensures.cause c.unheard.ensures.refused
    c.unheard.ensures.some

pub returns-in-Err-clause-err : goal.returns-in-Err-clause-err
returns-in-Err-clause-err c =
    on_err c.unheard.result
    (desks_still c.args.self.now c.args.desk c.index_mut.result.now c.hear_message.new.desk
    (slice_get-get_or c.args.self.now.desks.items c.args.desk c.index_mut.result.now (omega arith)
    ∙ ap (λ (s : Shown). Some s) (sym c.index_mut.ensures.value)) c.in-Err.ensures.err)
