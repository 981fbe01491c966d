use Rattle.std.proofs.Common.{arith, FitsSigned, w32, to_z-of_z, ◌≤ℤ◌, ◌<ℤ◌}
use Rattle.jiff_core.proofs.SignedLemmas.{signed_arith}
use Rattle.itip_recur.specs.Calendar.{IsDayOfDate}
use Rattle.itip_recur.proofs.Dates.{date_of-IsPlain}
use Rattle.itip_recur.proofs.CalendarDays.{year_high}
use Rattle.itip_recur.proofs.Anniversaries.{inside}
use Rattle.itip_recur.proofs.walk.first_anniversary.Goals as goal

pub day_of_date-requires-clause-year_in : goal.day_of_date-requires-clause-year_in
day_of_date-requires-clause-year_in c =
    let year = c.requires.in_year c.args.from (omega (arith, signed_arith)) c.requires.before in
    omega (arith, year, year_high c.args.from c.requires.from_in)

pub day_of_date-requires-clause-month_in : goal.day_of_date-requires-clause-month_in
day_of_date-requires-clause-month_in c =
    let start = c.args.start.now in
    (omega (arith, start.month_is, (date_of-IsPlain start.number).month_low), start.bounds.1)

pub returns-then-day-stop : goal.returns-then-day-stop
returns-then-day-stop c =
    let start = c.args.start.now in
    let day = c.in_ok-day.day in
    let is : IsDayOfDate c.args.year start.month start.day day = c.in_ok-day.ensures in
    let day_fits : FitsSigned w32 day = omega (arith, signed_arith, is.in_years) in
    let from : FitsSigned w32 c.args.from = c.ranges.from in
    let stop : FitsSigned w32 c.args.stop = c.ranges.stop in
    let low : c.args.from ≤ℤ day = omega (arith, signed_arith, c.if-from-day.true) in
    let high : day <ℤ c.args.stop = omega (arith, signed_arith, c.if-day-stop.true) in
    rw to_z-of_z (inside c.args.year start.month start.day start.number c.args.from c.args.stop c.requires.from_in c.requires.stop_in
    c.requires.in_year start.month_is start.day_is day is low high)
