use Rattle.std.proofs.Common.{List, ℕ, inl, subst}
use Rattle.std.specs.Io.KnownBytes.{Appends}
use Rattle.std.proofs.KnownBytes.{Appends-nil}
use Rattle.itip_streams.specs.Written.{AppendsFront}
use Rattle.itip_view.specs.ByUid.{IsCountOf}
use Rattle.itip_inbox.proofs.Outputs.{on_err}
use Rattle.itip_inbox.proofs.Reporting.{writes_report, report_front, refuses_report, report_refusal_front}
use Rattle.itip_inbox.proofs.reports.write_report.Goals as goal

pub returns-in_err-rows-clause-front : goal.returns-in_err-rows-clause-front
returns-in_err-rows-clause-front g c = on_err c.from_residual.result (inl (Appends-nil (g.W.Write.contents c.args.writer.now)))

pub returns-in_err-count-clause-front : goal.returns-in_err-count-clause-front
returns-in_err-count-clause-front g c =
    on_err c.from_residual-in_err-count.result (inl (Appends-nil (g.W.Write.contents c.args.writer.now)))

pub returns-in_err-text-in-Few-clause-front : goal.returns-in_err-text-in-Few-clause-front
returns-in_err-text-in-Few-clause-front g c =
    on_err c.from_residual-in_err-text-in-Few.result (inl (Appends-nil (g.W.Write.contents c.args.writer.now)))

pub returns-in_err-write_output-in-Few-clause-front : goal.returns-in_err-write_output-in-Few-clause-front
returns-in_err-write_output-in-Few-clause-front g c =
    on_err c.from_residual-in_err-write_output-in-Few.result
    (report_front c.args.name c.args.inbox.now.state c.args.window c.in_ok-rows.rows c.in_ok-rows.ensures
    (g.W.Write.contents c.args.writer.now) (g.W.Write.contents c.write_output.new.writer) c.in-Few.field-0
    (subst (IsCountOf c.in_ok-rows.rows) c.in-Few.is c.in_ok-count.ensures.count)
    c.in_ok-text-in-Few.text.items (c.in_ok-text-in-Few.ensures c.args.window)
    (subst (λ (t : List ℕ). AppendsFront (g.W.Write.contents c.args.writer.now) (g.W.Write.contents c.write_output.new.writer) t)
    c.as_slice.ensures.value c.in_err-write_output-in-Few.ensures.front))

pub returns-in_ok-write_output-in-Few-clause-written : goal.returns-in_ok-write_output-in-Few-clause-written
returns-in_ok-write_output-in-Few-clause-written g c =
    writes_report c.args.name c.args.inbox.now.state c.args.window c.in_ok-rows.rows c.in_ok-rows.ensures
    (g.W.Write.contents c.args.writer.now) (g.W.Write.contents c.write_output.new.writer) c.in-Few.field-0
    (subst (IsCountOf c.in_ok-rows.rows) c.in-Few.is c.in_ok-count.ensures.count)
    c.in_ok-text-in-Few.text.items (c.in_ok-text-in-Few.ensures c.args.window)
    (subst (λ (t : List ℕ). Appends (g.W.Write.contents c.args.writer.now) (g.W.Write.contents c.write_output.new.writer) t)
    c.as_slice.ensures.value c.in_ok-write_output-in-Few.ensures.all)

pub returns-in_err-refuse_rows-in-TooMany-clause-front : goal.returns-in_err-refuse_rows-in-TooMany-clause-front
returns-in_err-refuse_rows-in-TooMany-clause-front g c =
    on_err c.from_residual-in_err-refuse_rows-in-TooMany.result
    (report_refusal_front c.args.name c.args.inbox.now.state c.args.window c.in_ok-rows.rows c.in_ok-rows.ensures
    (g.W.Write.contents c.args.writer.now) (g.W.Write.contents c.refuse_rows.new.writer)
    (subst (IsCountOf c.in_ok-rows.rows) c.in-TooMany.is c.in_ok-count.ensures.count).0
    c.in_err-refuse_rows-in-TooMany.ensures.front)

pub returns-in_ok-refuse_rows-in-TooMany-clause-written : goal.returns-in_ok-refuse_rows-in-TooMany-clause-written
returns-in_ok-refuse_rows-in-TooMany-clause-written g c =
    refuses_report c.args.name c.args.inbox.now.state c.args.window c.in_ok-rows.rows c.in_ok-rows.ensures
    (g.W.Write.contents c.args.writer.now) (g.W.Write.contents c.refuse_rows.new.writer)
    (subst (IsCountOf c.in_ok-rows.rows) c.in-TooMany.is c.in_ok-count.ensures.count).0
    c.in_ok-refuse_rows-in-TooMany.ensures.all
