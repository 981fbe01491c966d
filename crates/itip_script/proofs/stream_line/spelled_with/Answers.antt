use Rattle.std.proofs.Common.{◌∙◌, sym, ap, Option}
use Rattle.std.specs.Prelude.{option_map}
use Rattle.itip_script.specs.Orders.{Order}
use Rattle.itip_script.specs.Stream.{asks}
use Rattle.itip_script.proofs.Wishes.{question_wish}
use Rattle.itip_script.proofs.stream_line.spelled_with.Goals as goal

pub returns-in_default : goal.returns-in_default
returns-in_default c =
    c.question.ensures ∙ ap (λ (o : Option Order). option_map asks o) c.spelled_by.ensures
    ∙ sym (question_wish c.args.verb c.args.arguments.now c.in_default.not-Take c.in_default.not-Arrive c.in_default.not-Post)
