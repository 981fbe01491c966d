use Rattle.itip_words.proofs.Windows.{none_is}
use Rattle.itip_words.proofs.AskedDays.{not_given}
use Rattle.itip_words.proofs.days.given_day.Goals as goal

pub returns-in_err-day-clause-none : goal.returns-in_err-day-clause-none
returns-in_err-day-clause-none c =
    rw c.in-Some.is (none_is c.from_residual.result (not_given c.in-Some.text.now c.in_err-day.ensures.none))
