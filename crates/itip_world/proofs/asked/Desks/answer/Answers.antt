use Rattle.std.proofs.Common.{◌≡◌, sym, ap, subst, refl}
use Rattle.itip_script.specs.Orders.{Order, order_of}
use Rattle.itip_script.specs.declared.command.Command.{Command}
use Rattle.itip_script.specs.declared.command.Command.TheVariants as command
use Rattle.itip_desk.specs.declared.refusal.Refusal.TheVariants.{NoCommand}
use Rattle.itip_world.specs.Looking.{OnlyAsks}
use Rattle.itip_world.specs.Running.{refused, Answers}
use Rattle.itip_world.proofs.Answering.{answers_refused}
use Rattle.itip_world.proofs.asked.Desks.answer.Goals as goal

pub unreachable-requires : goal.unreachable-requires
unreachable-requires c =
    elim c.args.command.now as (λ (k : Command). c.args.command.now ≡ k → (OnlyAsks (order_of k) → ⊥) → ⊥) [
      | command.Take desk text ↦ λ e moves. c.in_default.not-Take desk text e
      | command.List desk ↦ λ e moves. moves tt
      | command.Mine desk address ↦ λ e moves. moves tt
      | command.Post desk since ↦ λ e moves. c.in_default.not-Post desk since e
      | command.Arrive packet desk ↦ λ e moves. c.in_default.not-Arrive packet desk e
      | command.Report desk name ↦ λ e moves. moves tt
      | command.Resend desk uid ↦ λ e moves. moves tt
      | command.Next desk uid ↦ λ e moves. moves tt
      | command.Entries desk ↦ λ e moves. moves tt
      | command.Malformed ↦ λ e moves. c.in_default.not-Malformed e
    ] refl c.requires

pub returns-in-Malformed-clause-answers : goal.returns-in-Malformed-clause-answers
returns-in-Malformed-clause-answers c =
    let asked = c.args.self.now in
    subst (λ (order : Order). Answers asked.window order asked.world (refused NoCommand) asked.world) (sym (ap order_of c.in-Malformed.is))
    (answers_refused asked.window asked.world)
