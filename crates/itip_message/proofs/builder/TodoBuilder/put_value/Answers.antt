use Rattle.std.proofs.Common.{◌≡◌, ◌∙◌, ◌+◌, List, Bool, true, false, ap, subst, sym, length, arith}
use Rattle.itip_lines.specs.declared.line.NumberedLine.{NumberedLine}
use Rattle.itip_message.specs.Building.{RefusesValue, broken_value, next_number}
use Rattle.itip_message.specs.Refusals.{IfRefused}
use Rattle.itip_message.specs.declared.error.ReadError.{ReadError}
use Rattle.itip_message.proofs.Building.{on_ok_always, value_refused}
use Rattle.itip_message.proofs.builder.TodoBuilder.put_value.Goals as goal

pub returns-then-is_unbroken-clause-whole : goal.returns-then-is_unbroken-clause-whole
returns-then-is_unbroken-clause-whole c = on_ok_always c.put.result (c.is_unbroken.ensures.0 c.if-is_unbroken.true)

pub returns-then-is_unbroken-clause-refused : goal.returns-then-is_unbroken-clause-refused
returns-then-is_unbroken-clause-refused c =
    value_refused c.put.result c.args.front.now c.args.value.now (next_number c.args.self.now)
    (c.is_unbroken.ensures.0 c.if-is_unbroken.true) c.put.ensures.refused

pub returns-clause-refused : goal.returns-clause-refused
returns-clause-refused c =
    let old : List NumberedLine = c.self.inside.lines.items in
    let here : c.len-number.result + 1 ≡ length old + 1 = omega (arith, c.len-number.ensures, c.self.inside.lines.ok.0) in
    let number : c.len-number.result + 1 ≡ next_number c.args.self.now =
    here ∙ ap (λ (ls : List NumberedLine). length ls + 1) c.self.view_is in
    subst (λ (e : ReadError). IfRefused e (RefusesValue c.args.front.now c.args.value.now (next_number c.args.self.now)))
    (sym c.refused.ensures)
    (rw number (broken_value (λ whole. differ (c.is_unbroken.ensures.1 whole) c.if-is_unbroken.false)))
  where
    differ : {b : Bool} → b ≡ true → b ≡ false → ⊥
    differ e f = cc
