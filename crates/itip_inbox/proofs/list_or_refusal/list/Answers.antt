use Rattle.std.proofs.Common.{◌||◌, ap}
use Rattle.itip_view.specs.Wanting.{Wants}
use Rattle.itip_inbox.specs.TaskList.{IsListed, IsTaskList}
use Rattle.itip_inbox.proofs.OfInbox.{kept_written, one_kept_front, unread_front}
use Rattle.itip_inbox.proofs.Outputs.{on_err, listed_once}
use Rattle.itip_inbox.proofs.list_or_refusal.list.Goals as goal

pub returns-in_err-inbox-clause-front : goal.returns-in_err-inbox-clause-front
returns-in_err-inbox-clause-front g c =
    on_err c.from_residual.result
    (unread_front g.R.Read.remaining c.args.sources.items (λ inputs. IsTaskList (g.F.ListForm.octets c.args.form.now)
    (Wants c.args.wanted.now) inputs c.args.window)
    (g.W.Write.contents c.args.writer.now))

pub returns-in_err-is_over-clause-front : goal.returns-in_err-is_over-clause-front
returns-in_err-is_over-clause-front g c =
    on_err c.from_residual-in_err-is_over.result (λ inputs are.
    one_kept_front (λ heard. IsListed (g.F.ListForm.octets c.args.form.now c.args.window) (Wants c.args.wanted.now) heard c.args.window)
    c.in_ok-inbox.inbox.state
    c.in_ok-inbox.inbox.refusals g.R.Read.remaining c.args.sources.items (g.W.Write.contents c.args.writer.now)
    (g.W.Write.contents c.write_list.new.writer) c.in_ok-inbox.ensures.holds inputs are
    (λ heard. listed_once (g.F.ListForm.octets c.args.form.now c.args.window) (Wants c.args.wanted.now) heard c.args.window)
    c.in_err-is_over.ensures.front)

pub returns-clause-output : goal.returns-clause-output
returns-clause-output g c = λ inputs are.
    kept_written (λ heard. IsListed (g.F.ListForm.octets c.args.form.now c.args.window) (Wants c.args.wanted.now) heard c.args.window)
    c.in_ok-inbox.inbox.state
    c.in_ok-inbox.inbox.refusals g.R.Read.remaining c.args.sources.items (g.W.Write.contents c.args.writer.now)
    (g.W.Write.contents c.write_list.new.writer) c.in_ok-inbox.ensures.holds inputs are c.in_ok-is_over.is_over _
    c.in_ok-is_over.ensures.written (ap (λ b. b || c.in_ok-is_over.is_over) c.has_refusals-is_refused.ensures)
