use Rattle.itip_moment.proofs.OptionLemmas.{none_is}
use Rattle.itip_moment.proofs.TextLemmas.{IsLocalText-date, IsLocalText-clock}
use Rattle.itip_moment.proofs.read.local.Goals as goal

pub returns-in_err-day-clause-none : goal.returns-in_err-day-clause-none
returns-in_err-day-clause-none c =
    none_is c.from_residual.result (λ day second is. c.in_err-day.ensures.none day (IsLocalText-date _ day second is))

pub returns-in_err-second-clause-none : goal.returns-in_err-second-clause-none
returns-in_err-second-clause-none c =
    none_is c.from_residual-in_err-second.result (λ day second is. c.in_err-second.ensures.none second (IsLocalText-clock _ day second is))
