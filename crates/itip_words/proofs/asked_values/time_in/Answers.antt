use Rattle.itip_words.proofs.MomentNames.{timed, untimed, in_text}
use Rattle.itip_words.proofs.asked_values.time_in.Goals as goal

pub returns-in-Some-clause-found : goal.returns-in-Some-clause-found
returns-in-Some-clause-found c =
    rw c.if_zoned.ensures (timed c.args.zone.now c.args.time.now c.in-Some.moment (rw c.in-Some.is at c.in_ok-moment.ensures.found))

pub returns-in-Some-clause-none : goal.returns-in-Some-clause-none
returns-in-Some-clause-none c =
    rw c.if_zoned.ensures (untimed c.args.zone.now c.args.time.now c.in-Some.moment (rw c.in-Some.is at c.in_ok-moment.ensures.found))

pub returns-in-None-clause-none : goal.returns-in-None-clause-none
returns-in-None-clause-none c =
    λ o named. (rw c.in-None.is at c.in_ok-moment.ensures.none) o (in_text c.args.zone.now c.args.time.now o named)
