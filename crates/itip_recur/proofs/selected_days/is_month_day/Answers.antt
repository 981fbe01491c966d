use Rattle.std.proofs.Common.{◌≤◌, arith}
use Rattle.itip_recur.specs.Calendar.{day_of_month}
use Rattle.itip_recur.specs.Sets.{from_last}
use Rattle.itip_recur.proofs.NamedDays.{places_of, weekdays_of}
use Rattle.itip_recur.proofs.selected_days.is_month_day.Goals as goal

pub returns-in-Listed : goal.returns-in-Listed
returns-in-Listed c =
    let day = c.args.day.now in
    let front : day_of_month day.number ≤ 31 = omega (arith, day.day_is, day.bounds) in
    let back : from_last day.number ≤ 31 = omega (arith, day.day_is, day.length_is, day.bounds) in
    rw (c.in-Listed.is, c.has_place.ensures)
    (places_of _ c.args.set day.number (rw c.in-Listed.is at c.requires) front back)

pub returns-in-Weekdays : goal.returns-in-Weekdays
returns-in-Weekdays c =
    let day = c.args.day.now in
    rw (c.in-Weekdays.is, c.has_weekday.ensures)
    (weekdays_of _ c.args.set day.number (rw c.in-Weekdays.is at c.requires) (omega (arith, day.day_is, day.bounds))
    (omega (arith, day.day_is, day.length_is, day.bounds)) (omega (arith, day.length_is, day.bounds)))
