use Rattle.std.proofs.Common.{codes}
use Rattle.std.proofs.lemmas.Result.{err_from_is_err_and}
use Rattle.itip_words.specs.Calls.{IsFilterOf}
use Rattle.itip_words.specs.Options.{options_of}
use Rattle.itip_words.proofs.Asking.{named}
use Rattle.itip_words.proofs.Calling.{called_by, never_called}
use Rattle.itip_words.proofs.Finding.{not_named}
use Rattle.itip_words.proofs.NoCalls.{cause_more}
use Rattle.itip_words.proofs.words.named_call.Goals as goal

pub returns-then-eq-clause-found : goal.returns-then-eq-clause-found
returns-then-eq-clause-found c = record {
  asked = (named c.args.word.now (codes "check") c.eq.result c.eq.ensures c.if-eq.true, c.is_set-why.ensures);
  possible = tt;
}

pub returns-then-eq-2-clause-found : goal.returns-then-eq-2-clause-found
returns-then-eq-2-clause-found c =
    called_by (options_of c.args.words.now) c.args.clock (codes "run") c.args.word.now c.in_ok-run_of.field-0
    (named c.args.word.now (codes "run") c.eq-2.result c.eq-2.ensures c.if-eq-2.true) (c.in_ok-run_of.ensures c.args.clock)

pub returns-then-eq-3-clause-found : goal.returns-then-eq-3-clause-found
returns-then-eq-3-clause-found c =
    called_by (options_of c.args.words.now) c.args.clock (codes "office") c.args.word.now c.office_of.result
    (named c.args.word.now (codes "office") c.eq-3.result c.eq-3.ensures c.if-eq-3.true) (c.office_of.ensures c.args.clock)

pub returns-in-Some-clause-found : goal.returns-in-Some-clause-found
returns-in-Some-clause-found c =
    let is : IsFilterOf c.args.word.now (options_of c.args.words.now) c.args.clock c.in-Some.filter =
    rw c.in-Some.is at c.in_ok-filter.ensures.found in
    record { asked = is.asked; possible = is.possible }

pub returns-in-None-clause-found : goal.returns-in-None-clause-found
returns-in-None-clause-found c =
    never_called (options_of c.args.words.now) c.args.clock c.args.word.now
    (not_named c.args.word.now (codes "check") c.eq.result c.eq.ensures c.if-eq.false)
    (not_named c.args.word.now (codes "run") c.eq-2.result c.eq-2.ensures c.if-eq-2.false)
    (not_named c.args.word.now (codes "office") c.eq-3.result c.eq-3.ensures c.if-eq-3.false)
    (rw c.in-None.is at c.in_ok-filter.ensures.found)

pub returns-in_err-filter-clause-fault : goal.returns-in_err-filter-clause-fault
returns-in_err-filter-clause-fault c =
    let p = err_from_is_err_and c.from_residual-in_err-filter.result c.from_residual-in_err-filter.ensures.1 in
    rw (p.1, p.2) (cause_more _ _ c.args.clock c.in_err-filter.field-0.0
    (never_called (options_of c.args.words.now) c.args.clock c.args.word.now
    (not_named c.args.word.now (codes "check") c.eq.result c.eq.ensures c.if-eq.false)
    (not_named c.args.word.now (codes "run") c.eq-2.result c.eq-2.ensures c.if-eq-2.false)
    (not_named c.args.word.now (codes "office") c.eq-3.result c.eq-3.ensures c.if-eq-3.false)) c.in_err-filter.ensures.fault)
