use Rattle.std.proofs.Common.{◌≡◌, ◌++◌, ◌∙◌, ◌-◌, List, [], ℕ, arith, sym, ap, subst, length, take, drop, append-nil}
use Rattle.std.proofs.lemmas.List.{nil_from_length}
use Rattle.std.proofs.lemmas.Result.{on_ok_weaker, on_err_weaker}
use Rattle.itip_streams.specs.Written.{AppendsFront, MovesOut}
use Rattle.itip_streams.proofs.Writing.{front_none, moves_none}
use Rattle.itip_view.specs.declared.row.Row.{Row}
use Rattle.itip_inbox.specs.JsonTokens.{opened_text}
use Rattle.itip_inbox.proofs.JsonText.{first_of, opened_again}
use Rattle.itip_inbox.proofs.Outputs.{on_err}
use Rattle.itip_inbox.proofs.json_records.open_array.Goals as goal

pub returns-in_default-clause-moved : goal.returns-in_default-clause-moved
returns-in_default-clause-moved g c =
    let old = g.W.Write.contents c.args.writer.now in
    let kept = c.args.kept.now.items in
    let none : c.args.rows.now ≡ [] = nil_from_length c.args.rows.now (omega (arith, c.in_default.len_below)) in
    subst (λ (t : List ℕ). MovesOut old old t kept)
    (sym (ap (λ (rows : List Row). kept ++ opened_text rows) none ∙ append-nil kept)) (moves_none old kept)

pub returns-in_err-extend_from_slice-clause-front : goal.returns-in_err-extend_from_slice-clause-front
returns-in_err-extend_from_slice-clause-front g c = on_err c.from_residual.result (front_none (g.W.Write.contents c.args.writer.now) _)

pub returns-in_err-put_object-clause-front : goal.returns-in_err-put_object-clause-front
returns-in_err-put_object-clause-front g c =
    on_err c.from_residual-in_err-put_object.result (front_none (g.W.Write.contents c.args.writer.now) _)

pub returns-clause-moved : goal.returns-clause-moved
returns-clause-moved g c =
    let whole = opened_again c.args.kept.now.items c.extend_from_slice.new.self.items c.put_object.new.out.items c.first-item.result
    (take (length c.args.rows.now - 1) (drop 1 c.args.rows.now)) c.args.rows.now c.in_ok-extend_from_slice.ensures.items
    c.in_ok-put_object.ensures (first_of c.args.rows.now c.first-item.result c.in-len1-up.len_at_least c.first-item.is) in
    on_ok_weaker c.write_some_rows.result
    (subst (λ (t : List ℕ). MovesOut (g.W.Write.contents c.args.writer.now) (g.W.Write.contents c.write_some_rows.new.writer) t
    c.write_some_rows.new.kept.items) whole) c.write_some_rows.ensures.moved

pub returns-clause-front : goal.returns-clause-front
returns-clause-front g c =
    let whole = opened_again c.args.kept.now.items c.extend_from_slice.new.self.items c.put_object.new.out.items c.first-item.result
    (take (length c.args.rows.now - 1) (drop 1 c.args.rows.now)) c.args.rows.now c.in_ok-extend_from_slice.ensures.items
    c.in_ok-put_object.ensures (first_of c.args.rows.now c.first-item.result c.in-len1-up.len_at_least c.first-item.is) in
    on_err_weaker c.write_some_rows.result
    (subst (λ (t : List ℕ). AppendsFront (g.W.Write.contents c.args.writer.now) (g.W.Write.contents c.write_some_rows.new.writer) t)
    whole) c.write_some_rows.ensures.front
