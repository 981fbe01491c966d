use Rattle.std.proofs.Common.{List, subst}
use Rattle.std.specs.Option.{option_map}
use Rattle.itip_items.specs.declared.item.Item.{Item}
use Rattle.itip_report.specs.Resending.{IsResendOf}
use Rattle.itip_world.specs.Looking.Looks.{resends_messages, resends_no_desk}
use Rattle.itip_world.proofs.looks.Look.resend.Goals as goal

pub returns-in_default-clause-answers : goal.returns-in_default-clause-answers
returns-in_default-clause-answers c = resends_no_desk c.args.desk c.args.uid.now c.in_default.ensures

pub returns-clause-answers : goal.returns-clause-answers
returns-clause-answers c =
    let told = (option_map (λ bytes. bytes.items) c.in_ok-messages.messages) in
    resends_messages c.args.desk c.args.uid.now c.in-Some.asked.now told c.in-Some.ensures
    (subst (λ (items : List Item). IsResendOf items c.args.uid.now told) c.state.ensures c.in_ok-messages.ensures)
