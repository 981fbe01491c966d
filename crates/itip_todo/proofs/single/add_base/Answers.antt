use Rattle.std.proofs.Common.{◌≡◌, ℕ, refl}
use Rattle.std.proofs.lemmas.Result.{err_from_is_err_and}
use Rattle.itip_todo.specs.Drafts.{Refuses}
use Rattle.itip_todo.specs.Reading.{IsSequenceOf, first_of}
use Rattle.itip_todo.specs.Table.{sequence_limit}
use Rattle.itip_todo.specs.Values.{IsNumberUpTo}
use Rattle.itip_todo.specs.declared.error.TodoCause.TheVariants as cause
use Rattle.itip_todo.specs.declared.property_name.PropertyName.TheVariants as name
use Rattle.itip_todo.proofs.Drafting.{takes_base, bad, free}
use Rattle.itip_todo.proofs.GoodLines.{IfCause-weaker}
use Rattle.itip_todo.proofs.single.add_base.Goals as goal

pub returns-clause-taken : goal.returns-clause-taken
returns-clause-taken c =
    takes_base c.args.line.now c.args.draft.now c.in_ok-number_of.field-0 c.in_ok-check_free.ensures.free c.in_ok-number_of.ensures.value

pub returns-in_err-number_of-clause-cause : goal.returns-in_err-number_of-clause-cause
returns-in_err-number_of-clause-cause c =
    let p = err_from_is_err_and c.from_residual-in_err-number_of.result c.from_residual-in_err-number_of.ensures.1 in
    rw (p.1, p.2) (IfCause-weaker c.in_err-number_of.field-0.0 (λ f. (f ≡ cause.BadValue name.DeskBase) ×
    ((n : ℕ) → IsNumberUpTo sequence_limit c.args.line.now.value n → ⊥)) (Refuses name.DeskBase c.args.line.now c.args.draft.now)
    (λ f has above is. bad above name.DeskBase c.args.line.now f has.0
    (free IsSequenceOf (first_of (above name.DeskBase)) c.args.draft.now.base (is name.DeskBase) c.in_ok-check_free.ensures.free) refl
    (λ g. has.1 g.0 g.1)) c.in_err-number_of.ensures.cause)
