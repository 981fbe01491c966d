use Rattle.std.proofs.Common.{subst, List, ℕ}
use Rattle.std.specs.Io.KnownBytes.{Appends}
use Rattle.itip_streams.specs.Written.{AppendsFront}
use Rattle.itip_inbox.proofs.Outputs.{on_err}
use Rattle.itip_inbox.proofs.Showing.{shown_written, shown_front, shown_unread}
use Rattle.itip_inbox.proofs.shown.check.Goals as goal

pub returns-in_err-shown-clause-front : goal.returns-in_err-shown-clause-front
returns-in_err-shown-clause-front g c =
    on_err c.from_residual.result (shown_unread (g.W.Write.contents c.args.writer.now) (g.R.Read.remaining c.args.reader.now))

pub returns-in_err-refusals-clause-front : goal.returns-in_err-refusals-clause-front
returns-in_err-refusals-clause-front g c =
    on_err c.from_residual-in_err-refusals.result
    (shown_unread (g.W.Write.contents c.args.writer.now) (g.R.Read.remaining c.args.reader.now))

pub returns-in_err-write_output-clause-front : goal.returns-in_err-write_output-clause-front
returns-in_err-write_output-clause-front g c =
    on_err c.from_residual-in_err-write_output.result
    (shown_front (g.W.Write.contents c.args.writer.now) (g.W.Write.contents c.write_output.new.writer)
    (g.R.Read.remaining c.args.reader.now) c.in_ok-shown.shown.text.items c.in_ok-shown.shown.refusal c.in_ok-shown.ensures.shown
    (subst (λ (t : List ℕ). AppendsFront (g.W.Write.contents c.args.writer.now) (g.W.Write.contents c.write_output.new.writer) t)
    c.as_slice.ensures.value c.in_err-write_output.ensures.front))

pub returns-clause-output : goal.returns-clause-output
returns-clause-output g c =
    shown_written (g.W.Write.contents c.args.writer.now) (g.W.Write.contents c.write_output.new.writer)
    (g.R.Read.remaining c.args.reader.now) c.in_ok-shown.shown.text.items c.in_ok-shown.shown.refusal c.is_some.result
    c.in_ok-shown.ensures.shown
    (subst (λ (t : List ℕ). Appends (g.W.Write.contents c.args.writer.now) (g.W.Write.contents c.write_output.new.writer) t)
    c.as_slice.ensures.value c.in_ok-write_output.ensures.all)
    c.is_some.ensures
