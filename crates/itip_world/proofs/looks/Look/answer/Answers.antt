use Rattle.std.proofs.Common.{◌≡◌, refl}
use Rattle.itip_script.specs.Orders.{order_of}
use Rattle.itip_script.specs.declared.command.Command.{Command}
use Rattle.itip_script.specs.declared.command.Command.TheVariants as command
use Rattle.itip_world.specs.Looking.{AsksBriefly}
use Rattle.itip_world.proofs.looks.Look.answer.Goals as goal

pub unreachable-requires : goal.unreachable-requires
unreachable-requires c =
    elim c.args.command.now as (λ (k : Command). c.args.command.now ≡ k → AsksBriefly (order_of k) → ⊥) [
      | command.Take desk text ↦ λ e asks. asks
      | command.List desk ↦ λ e asks. asks
      | command.Mine desk address ↦ λ e asks. asks
      | command.Post desk since ↦ λ e asks. asks
      | command.Arrive packet desk ↦ λ e asks. asks
      | command.Report desk name ↦ λ e asks. c.in_default.not-Report desk name e
      | command.Resend desk uid ↦ λ e asks. c.in_default.not-Resend desk uid e
      | command.Next desk uid ↦ λ e asks. c.in_default.not-Next desk uid e
      | command.Entries desk ↦ λ e asks. c.in_default.not-Entries desk e
      | command.Malformed ↦ λ e asks. asks
    ] refl c.requires
