use Rattle.std.proofs.Common.{inl}
use Rattle.std.proofs.lemmas.Result.{on_err_weaker}
use Rattle.itip_script.specs.Orders.{order_of}
use Rattle.itip_state.proofs.Members.{if_ok_then}
use Rattle.itip_streams.proofs.Writing.{front_none}
use Rattle.itip_world.specs.Running.{answer_of, IsTold, Replies}
use Rattle.itip_world.proofs.Answering.{replies_told}
use Rattle.itip_world.proofs.Looking.{replies_of_look, front_of_look}
use Rattle.itip_world.proofs.Runnings.{on_err}
use Rattle.itip_world.proofs.asked.Desks.reply.Goals as goal

pub reply-requires : goal.reply-requires
reply-requires g c = rw c.if-only_asks.true at c.only_asks.ensures

pub returns-then-only_asks-clause-replies : goal.returns-then-only_asks-clause-replies
returns-then-only_asks-clause-replies g c =
    let order = order_of c.args.command.now in
    if_ok_then _ _ c.reply.result
    (λ why look. replies_of_look c.args.self.now.window c.args.self.now.world order (g.W.Write.contents c.args.writer.now)
    (g.W.Write.contents c.reply.new.writer) c.args.kept.now.items c.reply.new.kept.items why look)
    (rw (c.look.ensures.window, c.look.ensures.desks) at c.reply.ensures.replies)

pub returns-then-only_asks-clause-front : goal.returns-then-only_asks-clause-front
returns-then-only_asks-clause-front g c =
    let order = order_of c.args.command.now in
    on_err_weaker c.reply.result
    (front_of_look c.args.self.now.window c.args.self.now.world order (g.W.Write.contents c.args.writer.now)
    (g.W.Write.contents c.reply.new.writer) c.args.kept.now.items)
    (rw (c.look.ensures.window, c.look.ensures.desks) at c.reply.ensures.front)

pub answer-requires : goal.answer-requires
answer-requires g c = rw c.if-only_asks.false at c.only_asks.ensures

pub returns-in_err-answer-clause-front : goal.returns-in_err-answer-clause-front
returns-in_err-answer-clause-front g c =
    on_err c.from_residual.result (inl (front_none (g.W.Write.contents c.args.writer.now) c.args.kept.now.items))

pub returns-clause-replies : goal.returns-clause-replies
returns-clause-replies g c =
    let o = g.W.Write.contents c.args.writer.now in
    let order = order_of c.args.command.now in
    let given = c.in_ok-answer.answer in
    if_ok_then (IsTold (answer_of given) c.args.kept.now.items c.told.new.kept.items)
    (Replies c.args.self.now.window order c.args.self.now.world c.answer.new.self.world o o c.args.kept.now.items c.told.new.kept.items)
    c.told.result
    (λ why told. replies_told c.args.self.now.window order c.args.self.now.world c.answer.new.self.world o c.args.kept.now.items
    c.told.new.kept.items (answer_of given) why c.in_ok-answer.ensures.answers told) c.told.ensures.told

pub returns-clause-front : goal.returns-clause-front
returns-clause-front g c =
    on_err c.told.result (inl (front_none (g.W.Write.contents c.args.writer.now) c.args.kept.now.items))
