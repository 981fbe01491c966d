use Rattle.itip_words.proofs.Nothing.{never_today}
use Rattle.itip_words.proofs.Windows.{none_is}
use Rattle.itip_words.proofs.days.today_of.Goals as goal

pub returns-in_err-day-clause-none : goal.returns-in_err-day-clause-none
returns-in_err-day-clause-none c =
    rw c.in-Some.is (none_is c.from_residual.result (never_today c.in-Some.text.now c.args.clock c.in_err-day.ensures.none))
