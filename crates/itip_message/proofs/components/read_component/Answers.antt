use Rattle.std.proofs.Common.{◌∙◌, ap, sym, subst, List, ℕ, Option, inr}
use Rattle.itip_lines.specs.Reading.{plain_lines}
use Rattle.itip_lines.specs.declared.line.NumberedLine.{NumberedLine}
use Rattle.itip_todo.specs.Reading as todo_reading
use Rattle.itip_message.specs.Refusals.{IfRefused, in_todo}
use Rattle.itip_message.specs.Message.{RefusesComponent}
use Rattle.itip_message.specs.declared.error.ReadError.{ReadError}
use Rattle.itip_message.specs.CauseLines.{line_of_cause}
use Rattle.itip_message.specs.declared.error.MessageCause.TheVariants as causes
use Rattle.itip_message.proofs.Making.{todo_refused}
use Rattle.itip_message.proofs.components.read_component.Goals as goal

pub returns-in-Err-clause-fault : goal.returns-in-Err-clause-fault
returns-in-Err-clause-fault c =
    subst (λ (e : ReadError). IfRefused e (RefusesComponent c.args.method c.args.number c.args.component.now)) (sym c.todo_gives.ensures)
    (todo_refused c.in-Err.error c.args.method c.args.number c.args.component.now
    (subst (λ (lines : List NumberedLine). todo_reading.IfRefused c.in-Err.error (todo_reading.RefusesTodo lines)) c.as_slice-lines.ensures
    c.in-Err.ensures.refused))

pub returns-in-Some-clause-fault : goal.returns-in-Some-clause-fault
returns-in-Some-clause-fault c = inr (
  c.in-Ok.todo,
  c.in-Some.cause,
  subst (λ (lines : List NumberedLine). todo_reading.ReadsTodo (plain_lines lines) c.in-Ok.todo) c.as_slice-lines.ensures
      c.in-Ok.ensures.found,
  sym c.method_cause.ensures ∙ c.in-Some.is,
  ap (λ (line : Option ℕ). in_todo c.args.number (causes.Misfit c.in-Some.cause) line) (c.line_of_cause.ensures ∙
      ap (line_of_cause c.in-Some.cause) c.as_slice-lines.ensures),
)

pub returns-in-None-clause-found : goal.returns-in-None-clause-found
returns-in-None-clause-found c = record {
  reads = subst (λ (lines : List NumberedLine). todo_reading.ReadsTodo (plain_lines lines) c.in-Ok.todo) c.as_slice-lines.ensures
      c.in-Ok.ensures.found;
  fits = sym c.method_cause.ensures ∙ c.in-None.is;
}
