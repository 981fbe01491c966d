use Rattle.std.proofs.Common.{ℕ, List, Option, None, codes, subst}
use Rattle.itip_words.specs.Asking.{IsToday}
use Rattle.itip_words.specs.Days.{numbered}
use Rattle.itip_words.specs.Finding.{Never}
use Rattle.itip_words.specs.Options.{options_of, value_of}
use Rattle.itip_words.proofs.Nothing.{no_clock, not_named_day}
use Rattle.itip_words.proofs.filter.asked_today.Goals as goal

pub returns-in_default-clause-none : goal.returns-in_default-clause-none
returns-in_default-clause-none c =
    subst (λ (o : Option (List ℕ)). Never (IsToday o c.args.clock)) c.value_of-day.ensures c.in_default.ensures.none

pub returns-then-not-needs-clause-found : goal.returns-then-not-needs-clause-found
returns-then-not-needs-clause-found c =
    subst (λ (o : Option (List ℕ)). IsToday o c.args.clock (numbered c.in-Some.today)) c.value_of-day.ensures c.in-Some.ensures.found

pub returns-in-Some-today-clause-found : goal.returns-in-Some-today-clause-found
returns-in-Some-today-clause-found c =
    rw c.in-Some-today.is at
    (subst (λ (o : Option (List ℕ)). IsToday o c.args.clock (numbered c.in-Some.today)) c.value_of-day.ensures c.in-Some.ensures.found)

pub returns-in-None-clause-fault : goal.returns-in-None-clause-fault
returns-in-None-clause-fault c =
    let none : IsToday (value_of (codes "today") (options_of c.args.words.now)) c.args.clock None =
    rw c.in-None.is at
    (subst (λ (o : Option (List ℕ)). IsToday o c.args.clock (numbered c.in-Some.today)) c.value_of-day.ensures c.in-Some.ensures.found) in (
      no_clock (value_of (codes "today") (options_of c.args.words.now)) c.args.clock none,
      record {
        late = no_clock (value_of (codes "today") (options_of c.args.words.now)) c.args.clock none;
        unnamed = not_named_day (value_of (codes "today") (options_of c.args.words.now)) c.args.clock none;
        needed = c.if-not-needs.false;
      },
    )
