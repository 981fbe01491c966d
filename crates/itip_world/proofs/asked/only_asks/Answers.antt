use Rattle.std.proofs.Common.{◌≡◌, refl}
use Rattle.itip_script.specs.Orders.{order_of}
use Rattle.itip_script.specs.declared.command.Command.{Command}
use Rattle.itip_script.specs.declared.command.Command.TheVariants as command
use Rattle.itip_world.specs.Looking.{OnlyAsks}
use Rattle.itip_world.proofs.asked.only_asks.Goals as goal

pub returns-in_default : goal.returns-in_default
returns-in_default c =
    elim c.args.command.now as (λ (k : Command). c.args.command.now ≡ k → OnlyAsks (order_of k)) [
      | command.Take desk text ↦ λ e. absurd (c.in_default.not-Take desk text e)
      | command.List desk ↦ λ e. tt
      | command.Mine desk address ↦ λ e. tt
      | command.Post desk since ↦ λ e. absurd (c.in_default.not-Post desk since e)
      | command.Arrive packet desk ↦ λ e. absurd (c.in_default.not-Arrive packet desk e)
      | command.Report desk name ↦ λ e. tt
      | command.Resend desk uid ↦ λ e. tt
      | command.Next desk uid ↦ λ e. tt
      | command.Entries desk ↦ λ e. tt
      | command.Malformed ↦ λ e. absurd (c.in_default.not-Malformed e)
    ] refl
