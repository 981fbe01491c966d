use Rattle.std.proofs.Common.{◌≡◌, ℕ, refl}
use Rattle.std.proofs.lemmas.Result.{err_from_is_err_and}
use Rattle.itip_todo.specs.Drafts.{Refuses}
use Rattle.itip_todo.specs.Reading.{IsPercentOf, first_of}
use Rattle.itip_todo.specs.Table.{percent_limit}
use Rattle.itip_todo.specs.Values.{IsNumberUpTo}
use Rattle.itip_todo.specs.declared.error.TodoCause.TheVariants as cause
use Rattle.itip_todo.specs.declared.property_name.PropertyName.TheVariants as name
use Rattle.itip_todo.proofs.Drafting.{takes_percent, bad, free}
use Rattle.itip_todo.proofs.GoodLines.{IfCause-weaker}
use Rattle.itip_todo.proofs.single.add_percent.Goals as goal

pub returns-clause-taken : goal.returns-clause-taken
returns-clause-taken c =
    takes_percent c.args.line.now c.args.draft.now c.in_ok-number.number c.in_ok-check_free.ensures.free c.in_ok-number.ensures.value

pub returns-in_err-number-clause-cause : goal.returns-in_err-number-clause-cause
returns-in_err-number-clause-cause c =
    let p = err_from_is_err_and c.from_residual-in_err-number.result c.from_residual-in_err-number.ensures.1 in
    rw (p.1, p.2) (IfCause-weaker c.in_err-number.field-0.0 (λ f. (f ≡ cause.BadValue name.PercentComplete) ×
    ((n : ℕ) → IsNumberUpTo percent_limit c.args.line.now.value n → ⊥)) (Refuses name.PercentComplete c.args.line.now c.args.draft.now)
    (λ f has above is. bad above name.PercentComplete c.args.line.now f has.0
    (free IsPercentOf (first_of (above name.PercentComplete)) c.args.draft.now.percent (is name.PercentComplete)
    c.in_ok-check_free.ensures.free) refl (λ g. has.1 g.0 g.1)) c.in_err-number.ensures.cause)
