use Rattle.std.proofs.Common.{◌≡◌}
use Rattle.std.proofs.lemmas.Result.{err_from_is_err_and}
use Rattle.itip_moment.specs.declared.moment.Moment.{Moment}
use Rattle.itip_todo.specs.Drafts.{Refuses}
use Rattle.itip_todo.specs.Reading.{IsMomentOf, first_of}
use Rattle.itip_todo.specs.declared.error.TodoCause.TheVariants as cause
use Rattle.itip_todo.specs.declared.property_name.PropertyName.TheVariants as name
use Rattle.itip_todo.proofs.Drafting.{takes_rid, bad, free}
use Rattle.itip_todo.proofs.GoodLines.{IfCause-weaker}
use Rattle.itip_todo.proofs.single.add_rid.Goals as goal

pub returns-clause-taken : goal.returns-clause-taken
returns-clause-taken c =
    takes_rid c.args.line.now c.args.draft.now c.in_ok-moment_of.field-0 c.in_ok-range.range c.in_ok-check_free.ensures.free
    c.in_ok-range.ensures.range c.in_ok-range.ensures.good c.in_ok-moment_of.ensures.value

pub returns-in_err-moment_of-clause-cause : goal.returns-in_err-moment_of-clause-cause
returns-in_err-moment_of-clause-cause c =
    let p = err_from_is_err_and c.from_residual-in_err-moment_of.result c.from_residual-in_err-moment_of.ensures.1 in
    rw (p.1, p.2) (IfCause-weaker c.in_err-moment_of.field-0.0 (λ f. (f ≡ cause.BadValue name.RecurrenceId) ×
    ((m : Moment) → IsMomentOf c.args.line.now m → ⊥)) (Refuses name.RecurrenceId c.args.line.now c.args.draft.now)
    (λ f has above is. bad above name.RecurrenceId c.args.line.now f has.0
    (free IsMomentOf (first_of (above name.RecurrenceId)) c.args.draft.now.rid (is name.RecurrenceId).0
    c.in_ok-check_free.ensures.free) c.in_ok-range.ensures.good (λ g. has.1 g.0 g.1)) c.in_err-moment_of.ensures.cause)
