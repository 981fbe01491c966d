use Rattle.itip_moment.proofs.shown.DayFromStr.from_str.Goals as goal

pub returns-in-None : goal.returns-in-None
returns-in-None c = λ day is. c.in-None.ensures.none day.number is
