use Rattle.std.proofs.Common.{ℕ, List, Option, sym, ap, subst}
use Rattle.std.specs.Option.{option_copied}
use Rattle.itip_words.specs.Asking.{IsWritingTime}
use Rattle.itip_words.specs.Finding.{Never, Finds}
use Rattle.itip_words.proofs.Finding.{finds_both}
use Rattle.itip_words.proofs.Today.{never_timed}
use Rattle.itip_words.proofs.filter.writing_time.Goals as goal

pub returns-in-Some-default-clause-found : goal.returns-in-Some-default-clause-found
returns-in-Some-default-clause-found c =
    subst (λ (o : Option (List ℕ)). Finds (IsWritingTime o c.args.clock) c.read_stamp.result)
    (sym (ap option_copied c.in-Some-default.is-0))
    (finds_both _ c.read_stamp.result c.read_stamp.ensures.found c.read_stamp.ensures.none)

pub returns-in-None-None-clause-fault : goal.returns-in-None-None-clause-fault
returns-in-None-None-clause-fault c = (
  c.in-None-None.is-1,
  subst (λ (o : Option (List ℕ)). Never (IsWritingTime o c.args.clock)) (sym (ap option_copied c.in-None-None.is-0))
      (never_timed c.args.clock c.in-None-None.is-1),
)
