use Rattle.std.proofs.Common.{ℕ, List, Option, sym, subst}
use Rattle.std.proofs.lemmas.Result.{err_from_is_err_and}
use Rattle.std.specs.Option.{option_copied}
use Rattle.itip_words.specs.Asking.{AsksMessage, IsWritingTime, NoMessage}
use Rattle.itip_words.specs.Finding.{Never}
use Rattle.itip_words.specs.Options.{options_of}
use Rattle.itip_words.proofs.NoCalls.{cause_more}
use Rattle.itip_words.proofs.filter.message_of.Goals as goal

pub returns-in_err-at-clause-fault : goal.returns-in_err-at-clause-fault
returns-in_err-at-clause-fault c =
    let p = err_from_is_err_and c.from_residual.result c.from_residual.ensures.1 in
    rw (p.1, p.2) (cause_more (Never (IsWritingTime (option_copied c.value_of-at.result) c.args.clock))
    (NoMessage c.args.word.now (options_of c.args.words.now) c.args.clock) c.args.clock c.in_err-at.field-0.0
    (λ never message at is. never at (subst (λ (o : Option (List ℕ)). IsWritingTime o c.args.clock at) (sym c.value_of-at.ensures) is.1))
    c.in_err-at.ensures.fault)

pub returns-in_default-clause-none : goal.returns-in_default-clause-none
returns-in_default-clause-none c =
    let never : Never (IsWritingTime (option_copied c.value_of-at.result) c.args.clock) = rw c.in_default.is at c.in_ok-at.ensures.found in
    λ message at is. never at (subst (λ (o : Option (List ℕ)). IsWritingTime o c.args.clock at) (sym c.value_of-at.ensures) is.1)

pub returns-in-Some-2-clause-found : goal.returns-in-Some-2-clause-found
returns-in-Some-2-clause-found c = (
  rw c.in-Some-2.is at c.in_ok-asked.ensures,
  subst (λ (o : Option (List ℕ)). IsWritingTime o c.args.clock c.in-Some.at) c.value_of-at.ensures
      (rw c.in-Some.is at c.in_ok-at.ensures.found),
)

pub returns-in-None-clause-none : goal.returns-in-None-clause-none
returns-in-None-clause-none c =
    let never : Never (AsksMessage c.args.word.now (options_of c.args.words.now)) = rw c.in-None.is at c.in_ok-asked.ensures in
    λ message at is. never message is.0
