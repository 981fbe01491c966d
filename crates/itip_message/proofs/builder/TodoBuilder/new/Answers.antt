use Rattle.std.proofs.Common.{◌∙◌, ◌++◌, ℕ, List, subst}
use Rattle.std.specs.Prelude.{codes}
use Rattle.std.proofs.lemmas.Result.{err_from_is_err_and}
use Rattle.itip_lines.specs.declared.line.NumberedLine.{NumberedLine}
use Rattle.itip_message.specs.Building.{Adds, RefusesText, RefusesValue, next_number}
use Rattle.itip_message.specs.Refusals.{IfRefused}
use Rattle.itip_message.proofs.Building.{stamp_refused}
use Rattle.itip_message.proofs.builder.TodoBuilder.new.Goals as goal

pub returns-in_err-put_value-clause-refused : goal.returns-in_err-put_value-clause-refused
returns-in_err-put_value-clause-refused c =
    let p = err_from_is_err_and c.from_residual.result c.from_residual.ensures.1 in
    rw (p.1, p.2)
    (subst (λ (old : List NumberedLine). IfRefused c.in_err-put_value.field-0.0
    (RefusesValue (codes "UID:") c.args.uid.now (next_number old)))
    c.new.ensures.items c.in_err-put_value.ensures.refused)

pub returns-in_err-put-clause-refused : goal.returns-in_err-put-clause-refused
returns-in_err-put-clause-refused c =
    let p = err_from_is_err_and c.from_residual-in_err-put.result c.from_residual-in_err-put.ensures.1 in
    let stamp = c.as_str.ensures.value ∙ c.in_ok-stamp.ensures.ok in
    rw (p.1, p.2) (stamp_refused c.in_err-put.field-0.0 c.args.uid.now c.args.stamp (next_number c.put_value.new.self)
    (subst (λ (t : List ℕ). IfRefused c.in_err-put.field-0.0 (RefusesText (codes "DTSTAMP:" ++ t) (next_number c.put_value.new.self))) stamp
    c.in_err-put.ensures.refused))

pub returns-clause-begun : goal.returns-clause-begun
returns-clause-begun c = record {
  whole = c.in_ok-put_value.ensures.whole;
  before = c.put_value.new.self;
  uid_is = subst (λ (old : List NumberedLine). Adds (codes "UID:" ++ c.args.uid.now) old c.put_value.new.self) c.new.ensures.items
      c.in_ok-put_value.ensures.added;
  stamp_is = subst (λ (t : List ℕ). Adds (codes "DTSTAMP:" ++ t) c.put_value.new.self c.put.new.self)
      (c.as_str.ensures.value ∙ c.in_ok-stamp.ensures.ok) c.in_ok-put.ensures.added;
}
