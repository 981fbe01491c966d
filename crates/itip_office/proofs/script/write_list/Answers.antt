use Rattle.std.proofs.Common.{inl}
use Rattle.std.specs.Prelude.{codes, is_some}
use Rattle.std.proofs.lemmas.Result.{on_err_weaker}
use Rattle.itip_state.proofs.Members.{if_ok_then}
use Rattle.itip_streams.proofs.Writing.{front_none}
use Rattle.itip_desk.specs.WrittenRows.{WritesListed}
use Rattle.itip_office.specs.Scripts.{WritesList}
use Rattle.itip_office.proofs.Listing.{writes_list, writes_list_front}
use Rattle.itip_office.proofs.Scripting.{on_err}
use Rattle.itip_office.proofs.script.write_list.Goals as goal

pub returns-in_err-rows-clause-front : goal.returns-in_err-rows-clause-front
returns-in_err-rows-clause-front g c =
    on_err c.from_residual.result (inl (front_none (g.W.Write.contents c.args.writer.now) c.args.kept.now.items))

pub returns-clause-list : goal.returns-clause-list
returns-clause-list g c =
    let old = g.W.Write.contents c.args.writer.now in
    let new = g.W.Write.contents c.write_listed.new.writer in
    let kept = c.args.kept.now.items in
    let rest = c.write_listed.new.kept.items in
    if_ok_then (WritesListed (codes "list") c.args.number c.in_ok-rows.rows old new kept rest)
    (λ most. WritesList c.args.window c.args.number c.args.desk.now old new kept rest (is_some most)) c.write_listed.result
    (λ most. writes_list c.args.window c.args.number c.args.desk.now c.in_ok-rows.rows c.in_ok-rows.ensures.asked old new kept rest most)
    c.write_listed.ensures.listed

pub returns-clause-front : goal.returns-clause-front
returns-clause-front g c =
    on_err_weaker c.write_listed.result
    (writes_list_front c.args.window c.args.number c.args.desk.now c.in_ok-rows.rows c.in_ok-rows.ensures.asked
    (g.W.Write.contents c.args.writer.now) (g.W.Write.contents c.write_listed.new.writer) c.args.kept.now.items)
    c.write_listed.ensures.front
