use Rattle.std.proofs.Common.{sym, subst}
use Rattle.std.proofs.lemmas.Result.{err_from_is_err_and}
use Rattle.std.specs.Prelude.{IfSome}
use Rattle.itip_words.specs.Asking.{AsksIntake, AsksWritten, AsksFilter}
use Rattle.itip_words.specs.Calls.{IsFilterOf}
use Rattle.itip_words.specs.Finding.{Never}
use Rattle.itip_words.specs.Options.{options_of}
use Rattle.itip_words.specs.Words.{AreThreads}
use Rattle.itip_words.specs.declared.filter.Filter.{Filter}
use Rattle.itip_words.proofs.NoCalls.{cause_more}
use Rattle.itip_words.proofs.Nothing.{never_once}
use Rattle.itip_words.proofs.filter.filter_of.Goals as goal

pub returns-in_default-clause-found : goal.returns-in_default-clause-found
returns-in_default-clause-found c =
    let never : Never (AsksIntake (options_of c.args.words.now)) = rw c.in_default.is at c.in_ok-intake.ensures.asked in
    λ filter is. never filter.intake is.asked.0

pub returns-in_err-written-clause-fault : goal.returns-in_err-written-clause-fault
returns-in_err-written-clause-fault c =
    let p = err_from_is_err_and c.from_residual-in_err-written.result c.from_residual-in_err-written.ensures.1 in
    rw (p.1, p.2) (cause_more (Never (AsksWritten c.args.word.now (options_of c.args.words.now) c.args.clock))
    (Never (IsFilterOf c.args.word.now (options_of c.args.words.now) c.args.clock)) c.args.clock c.in_err-written.field-0.0
    (λ never filter is. never filter.written is.asked.1) c.in_err-written.ensures.fault)

pub returns-in_default-2-clause-found : goal.returns-in_default-2-clause-found
returns-in_default-2-clause-found c =
    let never : Never (AsksWritten c.args.word.now (options_of c.args.words.now) c.args.clock) =
    rw c.in_default-2.is at c.in_ok-written.ensures.found in
    λ filter is. never filter.written is.asked.1

pub returns-in_err-if_input_once-clause-fault : goal.returns-in_err-if_input_once-clause-fault
returns-in_err-if_input_once-clause-fault c =
    let filter : Filter = record { intake = c.in-Some.intake; written = c.in-Some-2.written } in
    let asks : AsksFilter c.args.word.now (options_of c.args.words.now) c.args.clock filter = (
      rw c.in-Some.is at c.in_ok-intake.ensures.asked,
      rw c.in-Some-2.is at c.in_ok-written.ensures.found,
    ) in
    let p = err_from_is_err_and c.from_residual-in_err-if_input_once.result c.from_residual-in_err-if_input_once.ensures.1 in
    rw (p.1, p.2) (cause_more _ _ c.args.clock c.in_err-if_input_once.field-0.0
    (never_once c.args.word.now (options_of c.args.words.now) c.args.clock filter asks) (c.in_err-if_input_once.ensures.twice c.args.clock))

pub returns-clause-found : goal.returns-clause-found
returns-clause-found c =
    let filter : Filter = record { intake = c.in-Some.intake; written = c.in-Some-2.written } in
    let asks : AsksFilter c.args.word.now (options_of c.args.words.now) c.args.clock filter = (
      rw c.in-Some.is at c.in_ok-intake.ensures.asked,
      rw c.in-Some-2.is at c.in_ok-written.ensures.found,
    ) in
    let few : IfSome filter.intake.threads AreThreads = rw c.in-Some.is at c.in_ok-intake.ensures.few in
    record {
      asked = subst (λ (f : Filter). AsksFilter c.args.word.now (options_of c.args.words.now) c.args.clock f)
          (sym c.in_ok-if_input_once.ensures.same) asks;
      possible = record {
        few = subst (λ (f : Filter). IfSome f.intake.threads AreThreads) (sym c.in_ok-if_input_once.ensures.same) few;
        once = c.in_ok-if_input_once.ensures.once;
      };
    }
