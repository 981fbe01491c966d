use Rattle.std.proofs.Common.{◌∙◌, sym, None, Ok}
use Rattle.std.proofs.lemmas.Result.{err_from_is_err_and}
use Rattle.itip_items.specs.declared.kind.Method.TheVariants as methods
use Rattle.itip_message.proofs.Heads.{draft_counted, draft_miscounted}
use Rattle.itip_message.proofs.head.read_draft_head.Goals as goal

pub returns-in_err-check_count-clause-fault : goal.returns-in_err-check_count-clause-fault
returns-in_err-check_count-clause-fault c =
    let p = err_from_is_err_and c.from_residual.result c.from_residual.ensures.1 in
    rw (p.1, p.2) (draft_miscounted c.in_err-check_count.field-0.0 c.args.calendar.now c.args.components.now
    (sym c.has_version.ensures ∙ c.if-not-has_version.false) c.in_err-check_count.ensures.fault)

pub returns-clause-found : goal.returns-clause-found
returns-clause-found c =
    draft_counted c.args.calendar.now c.args.components.now (Ok methods.Request) (sym c.has_version.ensures ∙ c.if-not-has_version.false)
    (c.in_ok-check_count.ensures.found None methods.Request)
