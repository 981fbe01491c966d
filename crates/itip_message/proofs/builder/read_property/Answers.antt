use Rattle.std.proofs.Common.{◌∙◌, sym, subst, List}
use Rattle.itip_lines.specs.Reading as lines
use Rattle.itip_lines.specs.declared.error.LineError.{LineError}
use Rattle.itip_lines.specs.declared.line.NumberedLine.{NumberedLine}
use Rattle.itip_message.specs.Building.{RefusesText, bad_line, not_one, of_component}
use Rattle.itip_message.specs.Refusals.{IfRefused}
use Rattle.itip_message.specs.declared.error.ReadError.{ReadError}
use Rattle.itip_message.proofs.Building.{owned_property}
use Rattle.itip_message.proofs.builder.read_property.Goals as goal

pub returns-in-Err-Refused-clause-refused : goal.returns-in-Err-Refused-clause-refused
returns-in-Err-Refused-clause-refused c =
    subst (λ (e : ReadError). IfRefused e (RefusesText c.args.text.now c.args.number)) (sym c.refused.ensures)
    (rw c.in-Err-Refused.field-0-is (bad_line c.in-Err-Refused.refusal
    (subst (λ (e : LineError). lines.IfRefused e (lines.Refused c.args.text.now)) c.in-Err-Refused.field-0-is
    c.in-Err-Refused.ensures.refused)))

pub returns-in_default-clause-refused : goal.returns-in_default-clause-refused
returns-in_default-clause-refused c =
    subst (λ (e : ReadError). IfRefused e (RefusesText c.args.text.now c.args.number)) (sym c.refused-in_default.ensures)
    (not_one c.in-Ok.found.items c.in-Ok.ensures.found c.in_default.ensures)

pub returns-else-is_property-clause-refused : goal.returns-else-is_property-clause-refused
returns-else-is_property-clause-refused c =
    subst (λ (e : ReadError). IfRefused e (RefusesText c.args.text.now c.args.number)) (sym c.refused-else-is_property.ensures)
    (of_component c.in-Some.only.number c.in-Some.only.line
    (subst (λ (ls : List NumberedLine). lines.Reads c.args.text.now ls) c.in-Some.ensures c.in-Ok.ensures.found)
    (sym c.is_property.ensures ∙ c.if-is_property.false))

pub returns-in_ok-into_own-clause-found : goal.returns-in_ok-into_own-clause-found
returns-in_ok-into_own-clause-found c =
    owned_property c.args.text.now c.in-Some.only c.in_ok-into_own.field-0
    (subst (λ (ls : List NumberedLine). lines.Reads c.args.text.now ls) c.in-Some.ensures c.in-Ok.ensures.found)
    (sym c.is_property.ensures ∙ c.if-is_property.true) c.in_ok-into_own.ensures
