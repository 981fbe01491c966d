use Rattle.itip_words.proofs.Windows.{none_is}
use Rattle.itip_words.proofs.Given.{none_given}
use Rattle.itip_words.proofs.Asking.{script_asked, no_script}
use Rattle.itip_words.specs.Options.{options_of}
use Rattle.itip_words.proofs.words.scripted_of.Goals as goal

pub returns-in_err-desks-clause-none : goal.returns-in_err-desks-clause-none
returns-in_err-desks-clause-none c =
    none_is c.from_residual.result (λ scripted asks. none_given _ _ c.in_err-desks.ensures asks.desks)

pub returns-in_err-from-clause-none : goal.returns-in_err-from-clause-none
returns-in_err-from-clause-none c =
    none_is c.from_residual-in_err-from.result (λ scripted asks. none_given _ _ c.in_err-from.ensures asks.first)

pub returns-in_err-to-clause-none : goal.returns-in_err-to-clause-none
returns-in_err-to-clause-none c =
    none_is c.from_residual-in_err-to.result (λ scripted asks. none_given _ _ c.in_err-to.ensures asks.after)

pub returns-clause-asked : goal.returns-clause-asked
returns-clause-asked c =
    script_asked (options_of c.args.words.now) c.in_ok-desks.desks.now c.in_ok-from.from.now c.in_ok-to.to.now c.in_ok-desks.ensures
    c.in_ok-from.ensures c.in_ok-to.ensures c.is_set-why.result c.is_set-why.ensures c.scripted_of_texts.result
    c.scripted_of_texts.ensures.found c.scripted_of_texts.ensures.why

pub returns-clause-none : goal.returns-clause-none
returns-clause-none c =
    no_script (options_of c.args.words.now) c.in_ok-desks.desks.now c.in_ok-from.from.now c.in_ok-to.to.now c.in_ok-desks.ensures
    c.in_ok-from.ensures c.in_ok-to.ensures c.scripted_of_texts.result c.scripted_of_texts.ensures.none
