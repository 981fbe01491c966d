use Rattle.std.proofs.lemmas.Result.{on_err_weaker}
use Rattle.itip_inbox.specs.Sending.{IsMessage}
use Rattle.itip_inbox.proofs.OfInbox.{unwritten}
use Rattle.itip_inbox.proofs.Outputs.{on_err}
use Rattle.itip_inbox.proofs.Sending.{message_front, all_sent, none_sent}
use Rattle.itip_inbox.proofs.sent.send.Goals as goal

pub returns-in_err-inbox-clause-front : goal.returns-in_err-inbox-clause-front
returns-in_err-inbox-clause-front g c =
    on_err c.from_residual.result
    (unwritten g.R.Read.remaining c.args.sources.items (IsMessage c.args.errand.now c.args.at) (g.W.Write.contents c.args.writer.now))

pub returns-in-Ok-clause-output : goal.returns-in-Ok-clause-output
returns-in-Ok-clause-output g c =
    all_sent c.args.errand.now c.args.at c.in_ok-inbox.inbox.state c.in_ok-inbox.inbox.refusals g.R.Read.remaining
    c.args.sources.items c.in_ok-inbox.ensures.holds c.in-Ok.message.octets.items c.in-Ok.message.lacking c.in-Ok.ensures.written
    c.in-Ok.ensures.lacking (g.W.Write.contents c.args.writer.now) (g.W.Write.contents c.write_message.new.writer)
    c.write_message.result c.write_message.ensures.all c.write_message.ensures.sent

pub returns-in-Ok-clause-front : goal.returns-in-Ok-clause-front
returns-in-Ok-clause-front g c =
    on_err_weaker c.write_message.result (λ front.
    message_front c.args.errand.now c.args.at c.in_ok-inbox.inbox.state c.in_ok-inbox.inbox.refusals g.R.Read.remaining
    c.args.sources.items c.in_ok-inbox.ensures.holds c.in-Ok.message.octets.items c.in-Ok.ensures.written
    (g.W.Write.contents c.args.writer.now) (g.W.Write.contents c.write_message.new.writer) front) c.write_message.ensures.front

pub returns-in_err-cause_of-in-Err-clause-front : goal.returns-in_err-cause_of-in-Err-clause-front
returns-in_err-cause_of-in-Err-clause-front g c =
    on_err c.from_residual-in_err-cause_of-in-Err.result
    (unwritten g.R.Read.remaining c.args.sources.items (IsMessage c.args.errand.now c.args.at) (g.W.Write.contents c.args.writer.now))

pub returns-clause-output : goal.returns-clause-output
returns-clause-output g c =
    none_sent c.args.errand.now c.args.at c.in_ok-inbox.inbox.state c.in_ok-inbox.inbox.refusals g.R.Read.remaining
    c.args.sources.items c.in_ok-inbox.ensures.holds c.in-Err.error c.in_ok-cause_of-in-Err.field-0 c.in-Err.ensures.fault
    c.in_ok-cause_of-in-Err.ensures.same c.in_ok-cause_of-in-Err.ensures.not_memory (g.W.Write.contents c.args.writer.now)
