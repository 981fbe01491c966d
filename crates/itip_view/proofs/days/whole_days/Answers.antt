use Rattle.std.proofs.Common.{ap, ◌∙◌}
use Rattle.itip_recur.specs.Given.{are_given}
use Rattle.itip_recur.specs.ToDoShape.{Recurs}
use Rattle.itip_recur.proofs.RuleTexts.{given_is}
use Rattle.itip_view.specs.RowDays.{days_from}
use Rattle.itip_view.proofs.Needing.{same_test}
use Rattle.itip_view.proofs.days.whole_days.Goals as goal

pub returns : goal.returns
returns c =
    let todo = c.args.todo.now in
    let given = are_given todo.rule todo.rdates todo.exdates todo.others in
    c.days_from.ensures
    ∙ ap (λ b. days_from b c.day_of.result) (same_test c.recurs.result given (Recurs todo) c.recurs.ensures
    (given_is todo.rule todo.rdates todo.exdates todo.others))
    ∙ ap (days_from given) c.day_of.ensures
