use Rattle.std.proofs.Common.{◌∙◌, sym, subst, List}
use Rattle.itip_lines.specs.declared.line.NumberedLine.{NumberedLine}
use Rattle.itip_todo.specs.Reading as todo_reading
use Rattle.itip_message.specs.Building.{RefusesMade}
use Rattle.itip_message.specs.Refusals.{IfRefused}
use Rattle.itip_message.specs.declared.error.ReadError.{ReadError}
use Rattle.itip_message.proofs.Building.{made_refused}
use Rattle.itip_message.proofs.builder.TodoBuilder.todo.Goals as goal

pub returns-in-Err-clause-fault : goal.returns-in-Err-clause-fault
returns-in-Err-clause-fault c =
    subst (λ (e : ReadError). IfRefused e (RefusesMade c.args.self.now)) (sym c.todo_gives.ensures)
    (made_refused c.in-Err.error c.args.self.now
    (subst (λ (ls : List NumberedLine). todo_reading.IfRefused c.in-Err.error (todo_reading.RefusesTodo ls))
    (c.as_slice.ensures.value ∙ c.self.view_is) c.in-Err.ensures.refused))
