use Rattle.std.proofs.Common.{◌≡◌, inl, refl}
use Rattle.itip_script.specs.Orders.{order_of}
use Rattle.itip_script.specs.declared.command.Command.{Command}
use Rattle.itip_script.specs.declared.command.Command.TheVariants as command
use Rattle.itip_state.proofs.Members.{if_ok_then}
use Rattle.itip_streams.proofs.Writing.{front_none}
use Rattle.itip_world.specs.Looking.{OnlyAsks, AsksBriefly, LookReplies}
use Rattle.itip_world.specs.Running.{answer_of, IsTold}
use Rattle.itip_world.proofs.Looking.{look_told}
use Rattle.itip_world.proofs.Runnings.{on_err}
use Rattle.itip_world.proofs.looks.Look.reply.Goals as goal

pub answer-requires : goal.answer-requires
answer-requires g c =
    elim c.args.command.now as (λ (k : Command). c.args.command.now ≡ k → OnlyAsks (order_of k) → AsksBriefly (order_of k)) [
      | command.Take desk text ↦ λ e asks. asks
      | command.List desk ↦ λ e asks. absurd (c.in_default.not-List desk e)
      | command.Mine desk address ↦ λ e asks. absurd (c.in_default.not-Mine desk address e)
      | command.Post desk since ↦ λ e asks. asks
      | command.Arrive packet desk ↦ λ e asks. asks
      | command.Report desk name ↦ λ e asks. tt
      | command.Resend desk uid ↦ λ e asks. tt
      | command.Next desk uid ↦ λ e asks. tt
      | command.Entries desk ↦ λ e asks. tt
      | command.Malformed ↦ λ e asks. asks
    ] refl c.requires

pub returns-in_err-answer-in_default-clause-front : goal.returns-in_err-answer-in_default-clause-front
returns-in_err-answer-in_default-clause-front g c =
    on_err c.from_residual.result (inl (front_none (g.W.Write.contents c.args.writer.now) c.args.kept.now.items))

pub returns-in_ok-answer-in_default-clause-replies : goal.returns-in_ok-answer-in_default-clause-replies
returns-in_ok-answer-in_default-clause-replies g c =
    let o = g.W.Write.contents c.args.writer.now in
    let asked = c.args.self.now in
    let order = order_of c.args.command.now in
    let given = answer_of c.in_ok-answer-in_default.field-0 in
    if_ok_then (IsTold given c.args.kept.now.items c.told.new.kept.items)
    (LookReplies asked.window order asked.desks.now o o c.args.kept.now.items c.told.new.kept.items) c.told.result
    (λ why told. look_told asked.window order asked.desks.now o c.args.kept.now.items c.told.new.kept.items given why
    c.in_ok-answer-in_default.ensures.answers told) c.told.ensures.told

pub returns-in_ok-answer-in_default-clause-front : goal.returns-in_ok-answer-in_default-clause-front
returns-in_ok-answer-in_default-clause-front g c =
    on_err c.told.result (inl (front_none (g.W.Write.contents c.args.writer.now) c.args.kept.now.items))
