use Rattle.std.proofs.Common.{◌≡◌, ◌∙◌, ◌+◌, List, ap, subst, sym, length, arith}
use Rattle.itip_lines.specs.declared.line.NumberedLine.{NumberedLine}
use Rattle.itip_message.specs.Building.{RefusesMoment, bad_zone, next_number}
use Rattle.itip_message.specs.Refusals.{IfRefused}
use Rattle.itip_message.specs.declared.error.ReadError.{ReadError}
use Rattle.itip_message.proofs.Building.{moment_added, moment_refused}
use Rattle.itip_message.proofs.builder.TodoBuilder.moment.Goals as goal

pub returns-then-has_lawful_zone-clause-added : goal.returns-then-has_lawful_zone-clause-added
returns-then-has_lawful_zone-clause-added c =
    moment_added c.put_moment.result c.args.name.now c.args.moment.now c.args.self.now c.put_moment.new.self c.requires
    (sym c.has_lawful_zone.ensures ∙ c.if-has_lawful_zone.true) c.put_moment.ensures.added

pub returns-then-has_lawful_zone-clause-refused : goal.returns-then-has_lawful_zone-clause-refused
returns-then-has_lawful_zone-clause-refused c =
    moment_refused c.put_moment.result c.args.name.now c.args.moment.now (next_number c.args.self.now)
    (sym c.has_lawful_zone.ensures ∙ c.if-has_lawful_zone.true) c.put_moment.ensures.refused

pub returns-clause-refused : goal.returns-clause-refused
returns-clause-refused c =
    let old : List NumberedLine = c.self.inside.lines.items in
    let here : c.len-number.result + 1 ≡ length old + 1 = omega (arith, c.len-number.ensures, c.self.inside.lines.ok.0) in
    let number : c.len-number.result + 1 ≡ next_number c.args.self.now =
    here ∙ ap (λ (ls : List NumberedLine). length ls + 1) c.self.view_is in
    subst (λ (e : ReadError). IfRefused e (RefusesMoment c.args.name.now c.args.moment.now (next_number c.args.self.now)))
    (sym c.refused.ensures)
    (rw number (bad_zone (sym c.has_lawful_zone.ensures ∙ c.if-has_lawful_zone.false)))
