use Rattle.std.proofs.Common.{◌≤◌, arith}
use Rattle.std.proofs.lemmas.Bool.{both_ways}
use Rattle.itip_recur.specs.Calendar.{day_of_month}
use Rattle.itip_recur.specs.Sets.{from_last}
use Rattle.itip_recur.proofs.MonthShapes.{names_of_day}
use Rattle.itip_recur.proofs.NamedDays.{places_of}
use Rattle.itip_recur.proofs.selected_days.is_year_day.Goals as goal

pub returns-then-not-is_in_month : goal.returns-then-not-is_in_month
returns-then-not-is_in_month c = (
  λ h. cc,
  λ p. absurd (both_ways c.is_in_month.result c.if-not-is_in_month.true
      (c.is_in_month.ensures.1 (names_of_day c.args.days.now c.args.start.now.number c.args.day.now.number p))),
)

pub returns-in-Listed : goal.returns-in-Listed
returns-in-Listed c =
    let day = c.args.day.now in
    let front : day_of_month day.number ≤ 31 = omega (arith, day.day_is, day.bounds) in
    let back : from_last day.number ≤ 31 = omega (arith, day.day_is, day.length_is, day.bounds) in
    let months = rw c.in-Listed.is at (c.is_in_month.ensures.0 c.if-not-is_in_month.false) in
    let places = places_of _ c.args.sets.now.days day.number (rw c.in-Listed.is at c.requires.0) front back in
    rw (c.in-Listed.is, c.has_place.ensures) (λ h. (months, places.0 h), λ p. places.1 p.1)
