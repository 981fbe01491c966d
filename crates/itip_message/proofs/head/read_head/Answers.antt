use Rattle.std.proofs.Common.{◌∙◌, sym, Ok}
use Rattle.std.specs.Prelude.{codes}
use Rattle.std.proofs.lemmas.Result.{err_from_is_err_and}
use Rattle.itip_message.specs.Head.{odd_line, named}
use Rattle.itip_message.proofs.Heads.{head_counted, head_miscounted}
use Rattle.itip_message.proofs.head.read_head.Goals as goal

pub returns-in_err-check_count-clause-fault : goal.returns-in_err-check_count-clause-fault
returns-in_err-check_count-clause-fault c =
    let p = err_from_is_err_and c.from_residual-in_err-check_count.result c.from_residual-in_err-check_count.ensures.1 in
    rw (p.1, p.2) (head_miscounted c.in_err-check_count.field-0.0 c.args.calendar.now c.args.components.now c.in-Some.method
    (sym c.has_version.ensures ∙ c.if-not-has_version.false) (sym c.in_ok-found.ensures ∙ c.in-Some.is)
    c.in_err-check_count.ensures.fault)

pub returns-clause-found : goal.returns-clause-found
returns-clause-found c =
    head_counted c.args.calendar.now c.args.components.now c.in-Some.method (Ok c.in-Some.method)
    (sym c.has_version.ensures ∙ c.if-not-has_version.false) (sym c.in_ok-found.ensures ∙ c.in-Some.is)
    (c.in_ok-check_count.ensures.found (odd_line (named (codes "METHOD") c.args.calendar.now)) c.in-Some.method)
