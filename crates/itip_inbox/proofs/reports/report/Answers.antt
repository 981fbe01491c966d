use Rattle.std.proofs.Common.{◌||◌, ap}
use Rattle.itip_inbox.specs.Reports.{IsReported, IsReport}
use Rattle.itip_inbox.proofs.OfInbox.{kept_written, one_kept_front, unread_front}
use Rattle.itip_inbox.proofs.Outputs.{on_err}
use Rattle.itip_inbox.proofs.Reporting.{reported_once}
use Rattle.itip_inbox.proofs.reports.report.Goals as goal

pub returns-in_err-inbox-clause-front : goal.returns-in_err-inbox-clause-front
returns-in_err-inbox-clause-front g c =
    on_err c.from_residual.result
    (unread_front g.R.Read.remaining c.args.sources.items (λ inputs. IsReport c.args.name inputs c.args.window)
    (g.W.Write.contents c.args.writer.now))

pub returns-in_err-is_over-clause-front : goal.returns-in_err-is_over-clause-front
returns-in_err-is_over-clause-front g c =
    on_err c.from_residual-in_err-is_over.result (λ inputs are.
    one_kept_front (λ heard. IsReported c.args.name heard c.args.window) c.in_ok-inbox.inbox.state
    c.in_ok-inbox.inbox.refusals g.R.Read.remaining c.args.sources.items (g.W.Write.contents c.args.writer.now)
    (g.W.Write.contents c.write_report.new.writer) c.in_ok-inbox.ensures.holds inputs are
    (λ heard. reported_once c.args.name heard c.args.window) c.in_err-is_over.ensures.front)

pub returns-clause-output : goal.returns-clause-output
returns-clause-output g c = λ inputs are.
    kept_written (λ heard. IsReported c.args.name heard c.args.window) c.in_ok-inbox.inbox.state
    c.in_ok-inbox.inbox.refusals g.R.Read.remaining c.args.sources.items (g.W.Write.contents c.args.writer.now)
    (g.W.Write.contents c.write_report.new.writer) c.in_ok-inbox.ensures.holds inputs are c.in_ok-is_over.is_over _
    c.in_ok-is_over.ensures.written (ap (λ b. b || c.in_ok-is_over.is_over) c.has_refusals-is_refused.ensures)
