use Rattle.std.proofs.Common.{Option, List, ℕ, map, subst}
use Rattle.std.specs.String.{string_bytes}
use Rattle.std.proofs.lemmas.Result.{err_from_is_err_and}
use Rattle.clap.specs.Simple.{subcommand_rows_of}
use Rattle.itip_words.specs.Asking.{IsAsked}
use Rattle.itip_words.specs.Calls.{IsCallBy}
use Rattle.itip_words.specs.Finding.{Never}
use Rattle.itip_words.specs.Options.{Options}
use Rattle.itip_words.proofs.Calling.{asked_by, can_be, can_run, can_stream, can_office, can_filter}
use Rattle.itip_words.proofs.NoCalls.{faultless, told_of, cause_more, cause_of}
use Rattle.itip_words.proofs.Programs.{words_read}
use Rattle.itip_words.proofs.words.read_words.Goals as goal

pub returns-in-Err-clause-no_call : goal.returns-in-Err-clause-no_call
returns-in-Err-clause-no_call c =
    told_of c.in_ok-command.field-0 (map string_bytes c.args.words.now) c.in_ok-command.ensures c.args.clock c.in-Err.error
    c.in_ok-no_call-in-Err.field-0 c.in-Err.ensures.kinds c.in_ok-no_call-in-Err.ensures

pub returns-in_err-call-clause-no_call : goal.returns-in_err-call-clause-no_call
returns-in_err-call-clause-no_call c =
    let p = err_from_is_err_and c.from_residual-in_err-call.result c.from_residual-in_err-call.ensures.1 in
    let read = words_read c.in_ok-command.field-0 (map string_bytes c.args.words.now) c.in-Ok.matches c.in_ok-command.ensures
    c.in-Ok.ensures.matches in
    rw (p.1, p.2) (cause_of (map string_bytes c.args.words.now) c.args.clock c.in_err-call.field-0.0
    (faultless c.in_ok-command.field-0 (map string_bytes c.args.words.now) c.in_ok-command.ensures c.in-Ok.ensures.kinds)
    (cause_more _ _ c.args.clock c.in_err-call.field-0.0
    (subst (λ (given : Option (List ℕ × Options)). Never (IsCallBy given c.args.clock)) read) c.in_err-call.ensures.fault))

pub returns-in-Some-clause-run : goal.returns-in-Some-clause-run
returns-in-Some-clause-run c =
    can_run c.in-Some.call (can_be (subcommand_rows_of c.in-Ok.matches) c.args.clock c.in-Some.call
    (rw c.in-Some.is at c.in_ok-call.ensures.found))

pub returns-in-Some-clause-stream : goal.returns-in-Some-clause-stream
returns-in-Some-clause-stream c =
    can_stream c.in-Some.call (can_be (subcommand_rows_of c.in-Ok.matches) c.args.clock c.in-Some.call
    (rw c.in-Some.is at c.in_ok-call.ensures.found))

pub returns-in-Some-clause-office : goal.returns-in-Some-clause-office
returns-in-Some-clause-office c =
    can_office c.in-Some.call (can_be (subcommand_rows_of c.in-Ok.matches) c.args.clock c.in-Some.call
    (rw c.in-Some.is at c.in_ok-call.ensures.found))

pub returns-in-Some-clause-filter : goal.returns-in-Some-clause-filter
returns-in-Some-clause-filter c =
    can_filter c.in-Some.call (can_be (subcommand_rows_of c.in-Ok.matches) c.args.clock c.in-Some.call
    (rw c.in-Some.is at c.in_ok-call.ensures.found))

pub returns-in-Some-clause-asked : goal.returns-in-Some-clause-asked
returns-in-Some-clause-asked c = record {
  faultless = faultless c.in_ok-command.field-0 (map string_bytes c.args.words.now) c.in_ok-command.ensures c.in-Ok.ensures.kinds;
  asked = subst (λ (given : Option (List ℕ × Options)). IsAsked given c.args.clock c.in-Some.call)
      (words_read c.in_ok-command.field-0 (map string_bytes c.args.words.now) c.in-Ok.matches c.in_ok-command.ensures
      c.in-Ok.ensures.matches)
      (asked_by (subcommand_rows_of c.in-Ok.matches) c.args.clock c.in-Some.call (rw c.in-Some.is at c.in_ok-call.ensures.found));
}

pub returns-clause-no_call : goal.returns-clause-no_call
returns-clause-no_call c = record {
  faultless = faultless c.in_ok-command.field-0 (map string_bytes c.args.words.now) c.in_ok-command.ensures c.in-Ok.ensures.kinds;
  nothing = subst (λ (given : Option (List ℕ × Options)). Never (IsCallBy given c.args.clock))
      (words_read c.in_ok-command.field-0 (map string_bytes c.args.words.now) c.in-Ok.matches c.in_ok-command.ensures
      c.in-Ok.ensures.matches)
      (rw c.in-None.is at c.in_ok-call.ensures.found);
}
