use Rattle.std.proofs.Common.{inl, subst}
use Rattle.std.proofs.KnownBytes.{Appends-nil}
use Rattle.itip_view.specs.ByUid.{IsCountOf}
use Rattle.itip_view.specs.Wanting.{Wants}
use Rattle.itip_inbox.proofs.Outputs.{on_err}
use Rattle.itip_inbox.proofs.Outputs.{writes_list, list_front, refuses_list, refusal_front}
use Rattle.itip_inbox.proofs.list_or_refusal.write_list.Goals as goal

pub returns-in_err-rows-clause-front : goal.returns-in_err-rows-clause-front
returns-in_err-rows-clause-front g c = on_err c.from_residual.result (inl (Appends-nil (g.W.Write.contents c.args.writer.now)))

pub returns-in_err-number-clause-front : goal.returns-in_err-number-clause-front
returns-in_err-number-clause-front g c =
    on_err c.from_residual-in_err-number.result (inl (Appends-nil (g.W.Write.contents c.args.writer.now)))

pub returns-in_err-write-in-Few-clause-front : goal.returns-in_err-write-in-Few-clause-front
returns-in_err-write-in-Few-clause-front g c =
    on_err c.from_residual-in_err-write-in-Few.result
    (list_front (g.F.ListForm.octets c.args.form.now c.args.window) (Wants c.args.wanted.now) c.args.inbox.now.state c.args.window
    c.in_ok-rows.rows c.in_ok-rows.ensures.asked
    (g.W.Write.contents c.args.writer.now) (g.W.Write.contents c.write.new.writer) c.in-Few.number
    (subst (IsCountOf c.in_ok-rows.rows) c.in-Few.is c.in_ok-number.ensures.count)
    (c.in_err-write-in-Few.ensures.front (subst (IsCountOf c.in_ok-rows.rows) c.in-Few.is c.in_ok-number.ensures.count)))

pub returns-in_ok-write-in-Few-clause-written : goal.returns-in_ok-write-in-Few-clause-written
returns-in_ok-write-in-Few-clause-written g c =
    writes_list (g.F.ListForm.octets c.args.form.now c.args.window) (Wants c.args.wanted.now) c.args.inbox.now.state c.args.window
    c.in_ok-rows.rows c.in_ok-rows.ensures.asked
    (g.W.Write.contents c.args.writer.now) (g.W.Write.contents c.write.new.writer) c.in-Few.number
    (subst (IsCountOf c.in_ok-rows.rows) c.in-Few.is c.in_ok-number.ensures.count)
    (c.in_ok-write-in-Few.ensures.all (subst (IsCountOf c.in_ok-rows.rows) c.in-Few.is c.in_ok-number.ensures.count))

pub returns-in_err-refuse_rows-in-TooMany-clause-front : goal.returns-in_err-refuse_rows-in-TooMany-clause-front
returns-in_err-refuse_rows-in-TooMany-clause-front g c =
    on_err c.from_residual-in_err-refuse_rows-in-TooMany.result
    (refusal_front (g.F.ListForm.octets c.args.form.now c.args.window) (Wants c.args.wanted.now) c.args.inbox.now.state c.args.window
    c.in_ok-rows.rows c.in_ok-rows.ensures.asked
    (g.W.Write.contents c.args.writer.now) (g.W.Write.contents c.refuse_rows.new.writer)
    (subst (IsCountOf c.in_ok-rows.rows) c.in-TooMany.is c.in_ok-number.ensures.count).0
    c.in_err-refuse_rows-in-TooMany.ensures.front)

pub returns-in_ok-refuse_rows-in-TooMany-clause-written : goal.returns-in_ok-refuse_rows-in-TooMany-clause-written
returns-in_ok-refuse_rows-in-TooMany-clause-written g c =
    refuses_list (g.F.ListForm.octets c.args.form.now c.args.window) (Wants c.args.wanted.now) c.args.inbox.now.state c.args.window
    c.in_ok-rows.rows c.in_ok-rows.ensures.asked
    (g.W.Write.contents c.args.writer.now) (g.W.Write.contents c.refuse_rows.new.writer)
    (subst (IsCountOf c.in_ok-rows.rows) c.in-TooMany.is c.in_ok-number.ensures.count).0
    c.in_ok-refuse_rows-in-TooMany.ensures.all
