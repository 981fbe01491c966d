use Rattle.std.proofs.Common.{inl}
use Rattle.std.specs.Prelude.{codes}
use Rattle.itip_script.specs.Orders.{lists_for}
use Rattle.itip_desk.specs.declared.refusal.Refusal.TheVariants.{NoDesk}
use Rattle.itip_state.proofs.Members.{if_ok_then}
use Rattle.itip_streams.proofs.Writing.{front_none}
use Rattle.itip_world.specs.Running.{refused, IsTold}
use Rattle.itip_world.specs.Looking.{LookReplies}
use Rattle.itip_world.specs.Looking.Looks.{lists_no_desk_for}
use Rattle.itip_world.proofs.Looking.{look_list_for, replies_list, front_of_list, look_told}
use Rattle.itip_world.proofs.Runnings.{on_err}
use Rattle.itip_world.proofs.looks.Look.list_for.Goals as goal

pub returns-in_default-clause-replies : goal.returns-in_default-clause-replies
returns-in_default-clause-replies g c =
    let o = g.W.Write.contents c.args.writer.now in
    let asked = c.args.self.now in
    let none = refused (NoDesk c.args.desk) in
    if_ok_then (IsTold none c.args.kept.now.items c.told.new.kept.items)
    (LookReplies asked.window (lists_for c.args.desk c.args.address.now) asked.desks.now o o c.args.kept.now.items c.told.new.kept.items)
    c.told.result
    (λ why told. look_told asked.window (lists_for c.args.desk c.args.address.now) asked.desks.now o c.args.kept.now.items
    c.told.new.kept.items none why
    (lists_no_desk_for c.args.desk c.args.address.now c.in_default.ensures) told) c.told.ensures.told

pub returns-in_default-clause-front : goal.returns-in_default-clause-front
returns-in_default-clause-front g c =
    on_err c.told.result (inl (front_none (g.W.Write.contents c.args.writer.now) c.args.kept.now.items))

pub returns-in_err-rows-clause-front : goal.returns-in_err-rows-clause-front
returns-in_err-rows-clause-front g c =
    on_err c.from_residual.result (inl (front_none (g.W.Write.contents c.args.writer.now) c.args.kept.now.items))

pub returns-in_err-most-clause-front : goal.returns-in_err-most-clause-front
returns-in_err-most-clause-front g c =
    let asked = c.args.self.now in
    on_err c.from_residual-in_err-most.result
    (front_of_list asked.window asked.desks.now (lists_for c.args.desk c.args.address.now) (codes "mine") c.args.desk c.in_ok-rows.rows
    (look_list_for asked.window asked.desks.now c.args.desk c.in-Some.listed.now c.in-Some.ensures c.in_ok-rows.rows
    c.args.address.now c.in_ok-rows.ensures)
    (g.W.Write.contents c.args.writer.now) (g.W.Write.contents c.write_listed.new.writer) c.args.kept.now.items
    c.in_err-most.ensures.front)

pub returns-clause-replies : goal.returns-clause-replies
returns-clause-replies g c =
    let asked = c.args.self.now in
    replies_list asked.window asked.desks.now (lists_for c.args.desk c.args.address.now) (codes "mine") c.args.desk c.in_ok-rows.rows
    (look_list_for asked.window asked.desks.now c.args.desk c.in-Some.listed.now c.in-Some.ensures c.in_ok-rows.rows
    c.args.address.now c.in_ok-rows.ensures)
    (g.W.Write.contents c.args.writer.now) (g.W.Write.contents c.write_listed.new.writer) c.args.kept.now.items
    c.write_listed.new.kept.items c.in_ok-most.most c.refused_for.result c.in_ok-most.ensures.listed c.refused_for.ensures
