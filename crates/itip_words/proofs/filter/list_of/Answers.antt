use Rattle.std.specs.Prelude.{codes}
use Rattle.std.proofs.lemmas.Result.{err_from_is_err_and}
use Rattle.itip_words.specs.Asking.{IsToday}
use Rattle.itip_words.specs.Finding.{Never}
use Rattle.itip_words.specs.Options.{options_of, value_of}
use Rattle.itip_words.proofs.NoCalls.{cause_more}
use Rattle.itip_words.proofs.Nothing.{never_list}
use Rattle.itip_words.proofs.Today.{list_late}
use Rattle.itip_words.proofs.filter.list_of.Goals as goal

pub returns-in_err-today-clause-fault : goal.returns-in_err-today-clause-fault
returns-in_err-today-clause-fault c =
    let p = err_from_is_err_and c.from_residual.result c.from_residual.ensures.1 in
    rw (p.1, p.2) (cause_more _ _ c.args.clock c.in_err-today.field-0.0
    (λ lacks. never_list (options_of c.args.words.now) c.args.clock
    (list_late (options_of c.args.words.now) c.args.clock c.needs_today-needs.result c.needs_today-needs.ensures lacks))
    c.in_err-today.ensures.fault)

pub returns-in_default-clause-found : goal.returns-in_default-clause-found
returns-in_default-clause-found c =
    let never : Never (IsToday (value_of (codes "today") (options_of c.args.words.now)) c.args.clock) =
    rw c.in_default.is at c.in_ok-today.ensures.none in
    never_list (options_of c.args.words.now) c.args.clock (λ listing is. never is.today is.today_is)

pub returns-in-None-clause-found : goal.returns-in-None-clause-found
returns-in-None-clause-found c =
    never_list (options_of c.args.words.now) c.args.clock (rw c.in-None.is at c.in_ok-listing.ensures)
