use Rattle.std.proofs.Common.{sym, ◌∙◌, ap}
use Rattle.itip_script.specs.Orders.{order_at, is_take}
use Rattle.itip_script.proofs.Stretches.{gives_take}
use Rattle.itip_script.proofs.commands.command_at.Goals as goal

pub returns-then-is_take : goal.returns-then-is_take
returns-then-is_take c =
    gives_take c.args.line.now c.args.after.now c.leading_stretch-message.result.after.now c.leading_stretch-message.result.text.now _
    (ap is_take (sym c.content-said.ensures) ∙ sym c.is_take.ensures ∙ c.if-is_take.true)
    c.leading_stretch-message.ensures.text
    (c.command_or_malformed.ensures ∙ ap (λ t. order_at t c.leading_stretch-message.result.text.now) c.content-said.ensures)
    c.leading_stretch-message.ensures.after
