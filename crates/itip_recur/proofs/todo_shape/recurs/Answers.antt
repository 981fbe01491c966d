use Rattle.itip_recur.proofs.RuleTexts.{given_is}
use Rattle.itip_recur.proofs.todo_shape.recurs.Goals as goal

pub returns : goal.returns
returns c =
    let todo = c.args.todo.now in
    let is = rw (c.as_slice.ensures, c.as_slice-2.ensures) at c.are_given.ensures in
    rw is (given_is todo.rule todo.rdates todo.exdates todo.others)
