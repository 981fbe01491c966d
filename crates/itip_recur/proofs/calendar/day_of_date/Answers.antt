use Rattle.std.proofs.Common.{arith, FitsSigned, w32, to_z-of_z}
use Rattle.jiff_core.proofs.SignedLemmas.{signed_arith}
use Rattle.itip_recur.proofs.CalendarDays.{no_date, is_day_of_date}
use Rattle.itip_recur.proofs.calendar.day_of_date.Goals as goal

pub returns-then-day-days_in_month : goal.returns-then-day-days_in_month
returns-then-day-days_in_month c =
    no_date c.args.year c.args.month c.args.day (omega (arith, c.days_in_month.ensures.value, c.if-day-days_in_month.true))

pub returns : goal.returns
returns c =
    let fits : FitsSigned w32 c.to_unix_epoch_day.result = omega (arith, signed_arith) in
    let date = c.dated-date.ensures in
    rw to_z-of_z (is_day_of_date c.args.year c.args.month c.args.day c.dated-date.result c.to_unix_epoch_day.result date.year date.month
    date.day c.to_unix_epoch_day.ensures.value)
